use Rattle.std.proofs.Common.{◌≡◌, ◌+◌, ◌-◌, ◌≤◌, length, drop}
use Rattle.schema_tokens.specs.Runs.{name_bytes}
use Rattle.schema_tokens.proofs.runs.name_bytes.Given as goal

abbrev pub invariant-loop-n : goal.invariant-loop-n
invariant-loop-n l = record { within : l.n ≤ length l.s; rest : name_bytes l.s ≡ l.n + name_bytes (drop l.n l.s) }

abbrev pub decreases-loop-n : goal.decreases-loop-n
decreases-loop-n l = length l.initial.s - l.n
