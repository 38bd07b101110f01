use Rattle.std.proofs.Common.{◌≡◌, ◌++◌, map, drop, option_map}
use Rattle.schema_ast.specs.Indexes.{keyed_in, all_of}
use Rattle.schema_ast.proofs.indexes.keyed_terms.Given as goal

abbrev pub invariant-loop-term : goal.invariant-loop-term
invariant-loop-term l = all_of (map (keyed_in l.text l.tokens) l.terms) ≡ option_map (λ r. l.all ++ r) (all_of (map (keyed_in l.text l.tokens) (drop l.term-index l.terms)))
