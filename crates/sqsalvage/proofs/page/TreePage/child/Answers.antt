use Rattle.std.proofs.Common.{◌≡◌, ◌∙◌, ⊎_elim, sym, ap}
use Rattle.sqpage.specs.Page.{cell_count_in, cell_count}
use Rattle.sqsalvage.specs.TreePages.{page_of}
use Rattle.sqsalvage.proofs.page.TreePage.child.Goals as goal

pub returns-in-None : goal.returns-in-None
returns-in-None c = λ p. ⊎_elim (λ x. c.in-None.ensures.cell x.0 x.1)
    (λ y. let n : c.count.result ≡ cell_count (page_of c.args.self.now) = c.count.ensures.value ∙ ap (λ u. cell_count_in u c.args.self.now.number) c.used.ensures.value in c.if-i-count.false (y.0 ∙ sym n))
