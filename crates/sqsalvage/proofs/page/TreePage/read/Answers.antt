use Rattle.sqsalvage.proofs.PagesOfTrees.{opened_read, none_read}
use Rattle.sqsalvage.proofs.page.TreePage.read.Goals as goal

pub returns-in-Ok-open-clause-ok : goal.returns-in-Ok-open-clause-ok
returns-in-Ok-open-clause-ok g c = λ gives u. opened_read (g.S.PageSource.pages c.args.source.now) c.args.number c.args.usable c.in-Ok-open.page u (c.in-Ok-open.ensures.ok gives)

pub returns-in-Err-clause-err : goal.returns-in-Err-clause-err
returns-in-Err-clause-err g c = λ gives u. let e = c.in-Err.ensures.err gives in (e.0, λ other. none_read (g.S.PageSource.pages c.args.source.now) c.args.number c.args.usable u e.2)
