use Rattle.std.proofs.Common.{◌≡◌, map, take}
use Rattle.schema_ast.specs.Tables.{key_rule}
use Rattle.schema_ast.proofs.rules.rules_of_keys.Given as goal

abbrev pub invariant-loop-key : goal.invariant-loop-key
invariant-loop-key l = l.all ≡ map (key_rule l.text l.tokens l.of.columns.now l.of.clauses.now l.of.integer) (take l.key-index l.keys)
