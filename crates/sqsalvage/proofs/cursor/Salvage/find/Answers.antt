use Rattle.std.proofs.Common.{Option, subst}
use Rattle.sqsalvage.specs.declared.page.TreePage.{TreePage}
use Rattle.sqsalvage.specs.internal.Taking.{IsRead}
use Rattle.sqsalvage.proofs.PagesOfTrees.{none_leaf}
use Rattle.sqsalvage.proofs.cursor.Salvage.find.Goals as goal

pub returns-in-Ok-None-clause-ok : goal.returns-in-Ok-None-clause-ok
returns-in-Ok-None-clause-ok g c = λ right u leaf.
    let d = g.S.PageSource.pages c.args.source.now in
    absurd (none_leaf d c.args.p (subst (λ (o : Option TreePage). IsRead d c.args.p o) c.in-Ok-None.field-0-is (c.in-Ok-None.ensures.ok right u)) leaf)
