use Rattle.std.proofs.Common.{arith}
use Rattle.cli_show.proofs.cells.show_cells.Goals as goal

pub show_payload-requires-clause-most : goal.show_payload-requires-clause-most
show_payload-requires-clause-most g c = omega (arith, c.cell-cell.ensures.cell.usable, c.loop-i.invariant.used)
