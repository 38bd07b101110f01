use Rattle.std.proofs.Common.{◌≡◌, ◌+◌, ◌-◌, ◌≤◌, length, drop}
use Rattle.schema_tokens.specs.Runs.{quoted_bytes}
use Rattle.schema_tokens.proofs.runs.quoted_bytes.Given as goal

abbrev pub invariant-loop-n : goal.invariant-loop-n
invariant-loop-n l = record { within : l.n ≤ length l.s; rest : quoted_bytes l.quote l.s ≡ l.n + quoted_bytes l.quote (drop l.n l.s) }

abbrev pub decreases-loop-n : goal.decreases-loop-n
decreases-loop-n l = length l.initial.s - l.n
