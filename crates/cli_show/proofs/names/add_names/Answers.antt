use Rattle.std.proofs.Common.{arith}
use Rattle.cli_show.proofs.names.add_names.Goals as goal

pub name_at-requires-clause-most : goal.name_at-requires-clause-most
name_at-requires-clause-most g c = omega (arith, c.cell-cell.ensures.cell.usable, c.loop-i.invariant.used)
