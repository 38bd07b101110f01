use Rattle.std.proofs.Common.{◌∙◌, ◌+◌, ◌≤◌, ℕ, List, Some, length, sym, ap, subst}
use Rattle.sqval.specs.Bytes.{part}
use Rattle.sqdeleted.specs.DeletedCursor.{CellsMove}
use Rattle.sqdeleted.specs.declared.cell.DeletedCell.{DeletedCell}
use Rattle.cli_show_deleted.specs.declared.candidate.Candidate.{Candidate}
use Rattle.cli_show_deleted.proofs.CellsCollected.{Collecting, cell_within, collecting_none, collecting_more, collecting_all}
use Rattle.cli_show_deleted.proofs.candidate.collected.Goals as goal

pub cells-init : goal.cells-init
cells-init c = subst (λ (xs : List Candidate). Collecting c.args.cells c.args.cells xs) (sym c.new-all.ensures.items) (collecting_none c.args.cells)

pub candidate_of-requires : goal.candidate_of-requires
candidate_of-requires c =
    let cell = c.in-Some.cell in
    subst (λ (u : List ℕ). cell.at + cell.size ≤ length u) (c.cells.invariant.used ∙ c.requires) (cell_within c.cells.left c.next_cell.new.self cell c.in-Some.ensures.moves)

pub cells-preserved : goal.cells-preserved
cells-preserved c =
    let now = c.cells.left in
    let new = c.next_cell.new.self in
    let x = c.candidate_of.result in
    let is = c.candidate_of.ensures.cell in
    let moves : CellsMove now new (Some x.cell) = subst (λ (z : DeletedCell). CellsMove now new (Some z)) (sym is) c.in-Some.ensures.moves in
    let bytes = c.candidate_of.ensures.bytes ∙ ap (λ (z : DeletedCell). part c.args.used.now z.at z.size) (sym is) ∙ ap (λ (u : List ℕ). part u x.cell.at x.cell.size) (sym c.requires) in
    subst (λ (xs : List Candidate). Collecting c.args.cells new xs) (sym c.in-Ok.ensures.items)
    (collecting_more c.args.cells now new c.cells.all.items x c.cells.invariant moves c.in-Some.ensures.same.0 c.in-Some.ensures.same.1 bytes)

pub returns-in_default-clause-ok : goal.returns-in_default-clause-ok
returns-in_default-clause-ok c = collecting_all c.args.cells c.cells.left c.next_cell.new.self c.cells.all.items c.cells.invariant c.in_default.ensures.moves
