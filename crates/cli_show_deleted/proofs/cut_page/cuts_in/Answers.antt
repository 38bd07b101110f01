use Rattle.std.proofs.Common.{List, IfSome, inl, subst, sym}
use Rattle.sqcheck.specs.declared.role.Role.{Role}
use Rattle.sqdeleted.specs.CutCursor.{AreCutLeft}
use Rattle.sqdeleted.specs.declared.cut.CutCell.{CutCell}
use Rattle.cli_show_deleted.specs.CutCells.{AreCutsIn}
use Rattle.cli_show_deleted.proofs.RolesOfPages.{if_some}
use Rattle.cli_show_deleted.proofs.cut_page.cuts_in.Goals as goal

pub returns-in-Btree-clause-left : goal.returns-in-Btree-clause-left
returns-in-Btree-clause-left c =
    let used = c.args.used.now in
    let number = c.args.number in
    let whole = c.args.whole.now in
    subst (λ (role : Role). IfSome c.of_page.result (λ s. (cells : List CutCell) → AreCutLeft s cells → AreCutsIn role used whole number cells)) (sym c.in-Btree.is)
    (if_some c.of_page.result (λ s w cells left. inl (w.0, w.1, w.2 cells left)) c.of_page.ensures.some)
