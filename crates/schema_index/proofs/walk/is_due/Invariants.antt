use Rattle.std.proofs.Common.{◌≡◌, true, drop}
use Rattle.std.specs.List.{fold}
use Rattle.schema_index.specs.Terms.{due_after}
use Rattle.schema_index.proofs.walk.is_due.Given as goal

abbrev pub invariant-loop-token : goal.invariant-loop-token
invariant-loop-token l = fold (due_after l.text) true l.tokens ≡ fold (due_after l.text) l.due (drop l.token-index l.tokens)
