use Rattle.std.proofs.Common.{◌≡◌, ◌+◌, drop}
use Rattle.schema_print.specs.Printable.{end_at}
use Rattle.schema_print.proofs.refusals.end_at.Given as goal

abbrev pub invariant-loop-i : goal.invariant-loop-i
invariant-loop-i l = end_at l.text l.tokens ≡ l.i + end_at l.text (drop l.i l.tokens)
