use Rattle.std.proofs.Common.{◌≡◌, ◌+◌, ◌≤◌, drop}
use Rattle.schema_print.specs.Printable.{closing_at}
use Rattle.schema_text.proofs.tokens.closing_at.Given as goal

abbrev pub invariant-loop-i : goal.invariant-loop-i
invariant-loop-i l = record { shallow : l.depth ≤ l.i; so_far : closing_at 0 l.tokens ≡ l.i + closing_at l.depth (drop l.i l.tokens) }
