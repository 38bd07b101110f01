use Rattle.std.proofs.Common.{◌≡◌, ◌+◌, drop}
use Rattle.std.specs.List.{position_or_len}
use Rattle.schema_tokens.specs.Keywords.{is_same_word}
use Rattle.schema_columns.specs.Keys.{name_at}
use Rattle.schema_index.proofs.columns.column_at.Given as goal

abbrev pub invariant-loop-i : goal.invariant-loop-i
invariant-loop-i l =
    position_or_len (λ c. is_same_word (name_at l.text l.tokens l.name) (name_at l.text l.tokens c.name)) l.columns
    ≡ l.i + position_or_len (λ c. is_same_word (name_at l.text l.tokens l.name) (name_at l.text l.tokens c.name)) (drop l.i l.columns)
