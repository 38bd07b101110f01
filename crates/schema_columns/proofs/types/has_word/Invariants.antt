use Rattle.std.proofs.Common.{◌≡◌, drop}
use Rattle.schema_columns.specs.Types.{has_word}
use Rattle.schema_columns.proofs.types.has_word.Given as goal

abbrev pub invariant-loop-i : goal.invariant-loop-i
invariant-loop-i l = has_word l.text l.word ≡ has_word (drop l.i l.text) l.word
