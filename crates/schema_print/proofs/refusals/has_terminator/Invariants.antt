use Rattle.std.proofs.Common.{◌≡◌, drop}
use Rattle.schema_print.specs.Printable.{has_terminator}
use Rattle.schema_print.proofs.refusals.has_terminator.Given as goal

abbrev pub invariant-loop-i : goal.invariant-loop-i
invariant-loop-i l = has_terminator l.text ≡ has_terminator (drop l.i l.text)
