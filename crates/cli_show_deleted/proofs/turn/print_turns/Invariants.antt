use Rattle.std.proofs.Common.{◌≤◌, drop, length}
use Rattle.cli_show_deleted.specs.internal.Candidates.{AreSound}
use Rattle.cli_show_deleted.proofs.TurnsOfCells.{Turned}
use Rattle.cli_show_deleted.proofs.turn.print_turns.Given as goal

abbrev pub invariant-turns : goal.invariant-turns
invariant-turns g l = record {
  olds : l.i ≤ length l.old;
  news : l.j ≤ length l.new;
  turned : AreSound l.old → AreSound l.new
      → Turned l.old l.new (drop l.i l.old) (drop l.j l.new) l.layouts.0.form l.layouts.1.form (g.W.Write.contents l.fn.out) (g.W.Write.contents l.out);
}
