use Rattle.std.proofs.Common.{◌≡◌, map, take}
use Rattle.schema_index.specs.Terms.{index_term}
use Rattle.schema_index.proofs.terms.index_terms.Given as goal

abbrev pub invariant-loop-member : goal.invariant-loop-member
invariant-loop-member l = l.terms.items ≡ map (index_term l.text l.tokens) (take l.member-index l.member-items)
