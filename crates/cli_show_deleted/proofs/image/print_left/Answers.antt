use Rattle.std.proofs.Common.{◌∙◌, ◌+◌, ◌≤◌, List, ℕ, length, subst}
use Rattle.cli_show_deleted.proofs.CellsCollected.{cell_within}
use Rattle.cli_show_deleted.proofs.CellsTold.{begins_cell}
use Rattle.cli_show_deleted.proofs.ImagesTold.{imaged_none, imaged_more, imaged_all}
use Rattle.cli_show_deleted.proofs.image.print_left.Goals as goal

pub cells-init : goal.cells-init
cells-init g c = imaged_none c.args.cells c.args.layout.form c.args.image.frame c.args.image.used.now c.args.shown.now (g.W.Write.contents c.args.out.now)

pub print_alone-requires : goal.print_alone-requires
print_alone-requires g c =
    let cell = c.in-Some.cell in
    subst (λ (u : List ℕ). cell.at + cell.size ≤ length u) (c.cells.invariant.used ∙ c.requires) (cell_within c.cells.left c.next_cell.new.self cell c.in-Some.ensures.moves)

pub cells-preserved : goal.cells-preserved
cells-preserved g c =
    let n = c.in-Some.ensures in
    let now = c.cells.left in
    let new = c.next_cell.new.self in
    let cell = c.in-Some.cell in
    let t = c.in-Ok.ensures.ok (begins_cell now new cell n.moves) in
    imaged_more c.args.cells now new c.args.layout.form c.args.image.frame c.args.image.used.now c.args.shown.now cell t.0 (g.W.Write.contents c.args.out.now)
    (g.W.Write.contents c.cells.out) (g.W.Write.contents c.print_alone.new.out) c.cells.invariant n.moves n.same.0 n.same.1 t.1 t.2

pub returns-in_default-clause-ok : goal.returns-in_default-clause-ok
returns-in_default-clause-ok g c =
    imaged_all c.args.cells c.cells.left c.next_cell.new.self c.args.layout.form c.args.image.frame c.args.image.used.now c.args.shown.now (g.W.Write.contents c.args.out.now)
    (g.W.Write.contents c.cells.out) c.cells.invariant c.in_default.ensures.moves
