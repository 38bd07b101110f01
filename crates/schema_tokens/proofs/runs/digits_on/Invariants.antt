use Rattle.std.proofs.Common.{◌≡◌, ◌+◌, drop}
use Rattle.schema_tokens.specs.Runs.{digits_on}
use Rattle.schema_tokens.proofs.runs.digits_on.Given as goal

abbrev pub invariant-loop-n : goal.invariant-loop-n
invariant-loop-n l = digits_on l.hexadecimal l.s ≡ l.n + digits_on l.hexadecimal (drop l.n l.s)
