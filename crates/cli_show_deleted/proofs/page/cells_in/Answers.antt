use Rattle.std.proofs.Common.{◌↔◌, ℕ, subst, sym, IfSome}
use Rattle.sqpage.specs.declared.cell.Parts.{Parts}
use Rattle.sqcheck.specs.declared.role.Role.{Role}
use Rattle.sqdeleted.specs.DeletedCursor.{IsLeft}
use Rattle.cli_show_deleted.specs.Cells.{StandsIn}
use Rattle.cli_show_deleted.proofs.RolesOfPages.{if_some, tree_left}
use Rattle.cli_show_deleted.proofs.page.cells_in.Goals as goal

pub returns-in-Btree-clause-left : goal.returns-in-Btree-clause-left
returns-in-Btree-clause-left c =
    let used = c.args.used.now in
    let number = c.args.number in
    subst (λ (role : Role). IfSome c.of_page.result (λ s. (at : ℕ) (p : Parts) → IsLeft s at p ↔ StandsIn role used number at p)) (sym c.in-Btree.is)
    (if_some c.of_page.result (λ s w. tree_left c.in-Btree.kind c.in-Btree.root used number s w.0 w.1 w.2) c.of_page.ensures.some)
