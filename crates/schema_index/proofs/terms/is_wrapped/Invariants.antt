use Rattle.std.proofs.Common.{◌≡◌, false, drop}
use Rattle.schema_index.specs.Terms.{is_wrapped}
use Rattle.schema_index.proofs.terms.is_wrapped.Given as goal

abbrev pub invariant-loop-token : goal.invariant-loop-token
invariant-loop-token l = is_wrapped l.text l.depth false l.tokens ≡ is_wrapped l.text l.open l.due (drop l.token-index l.tokens)
