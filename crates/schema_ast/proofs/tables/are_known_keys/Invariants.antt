use Rattle.std.proofs.Common.{◌≡◌, drop}
use Rattle.std.specs.List.{list_all}
use Rattle.schema_ast.specs.Tables.{is_known_key}
use Rattle.schema_ast.proofs.tables.are_known_keys.Given as goal

abbrev pub invariant-loop-key : goal.invariant-loop-key
invariant-loop-key l =
    list_all (is_known_key l.text l.tokens l.of.columns.now l.of.clauses.now l.of.integer) l.keys
    ≡ list_all (is_known_key l.text l.tokens l.of.columns.now l.of.clauses.now l.of.integer) (drop l.key-index l.keys)
