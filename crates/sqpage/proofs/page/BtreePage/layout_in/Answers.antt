use Rattle.sqpage.specs.Layout.{IsLaidOut}
use Rattle.sqpage.proofs.btree.LayoutOfPage.{not_laid_out, refuses_layout, on_err}
use Rattle.sqpage.proofs.page.BtreePage.layout_in.Goals as goal

pub returns-in_err-taken-clause-none : goal.returns-in_err-taken-clause-none
returns-in_err-taken-clause-none c = let h = c.in_err-taken.ensures.err in on_err (¬ IsLaidOut c.args.self.now) c.from_residual.result (not_laid_out c.args.self.now _ h.0 h.1)

pub returns-clause-none : goal.returns-clause-none
returns-clause-none c = refuses_layout c.args.self.now c.judge_fragments.result c.judge_fragments.ensures.err
