use Rattle.std.proofs.Common.{◌≡◌, drop}
use Rattle.schema_print.specs.Printable.{ends_safe_mode}
use Rattle.schema_print.proofs.refusals.ends_safe_mode.Given as goal

abbrev pub invariant-loop-i : goal.invariant-loop-i
invariant-loop-i l = ends_safe_mode l.text l.tokens ≡ ends_safe_mode l.text (drop l.i l.tokens)
