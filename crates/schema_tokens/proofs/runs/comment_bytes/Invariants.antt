use Rattle.std.proofs.Common.{◌≡◌, ◌+◌, drop}
use Rattle.schema_tokens.specs.Runs.{comment_bytes}
use Rattle.schema_tokens.proofs.runs.comment_bytes.Given as goal

abbrev pub invariant-loop-n : goal.invariant-loop-n
invariant-loop-n l = comment_bytes l.s ≡ l.n + comment_bytes (drop l.n l.s)
