-- What stands between the marks of a text (own).
use Rattle.std.specs.Prelude.{ℕ, List}
use Rattle.cli_row_text.specs.declared.form.Notation.{Notation}
use Rattle.cli_row_text.specs.declared.form.Notation.TheVariants.{Json, Csv, Sql}
use Rattle.cli_row_text.specs.Lines.{doubled, escaped}

-- the mark before and behind a text
abbrev pub mark_of : Notation → ℕ
mark_of Json = 34
mark_of Csv = 34
mark_of Sql = 39

-- a byte between them
abbrev pub byte_text : Notation → ℕ → List ℕ
byte_text Json = escaped
byte_text Csv = doubled 34
byte_text Sql = doubled 39
