-- A word for the type of each column (datatype3, 3.1; stricttables, 2).
use Rattle.std.specs.Prelude.{ℕ, if◌then◌else◌, List, [], codes}
use Rattle.schema_columns.specs.Types.{is_standard, without_generated, without_quotes, type_name, type_affinity}
use Rattle.schema_columns.specs.declared.types.Affinity.{Affinity}
use Rattle.schema_columns.specs.declared.types.Affinity.TheVariants.{Integer, Text, Blob, Real, Numeric}

-- a word whose affinity is this one, and that isn't a type of STRICT tables
abbrev pub word_for : Affinity → List ℕ
word_for Integer = codes "BIGINT"
word_for Text = codes "CHARACTER"
word_for Blob = []
word_for Real = codes "DOUBLE"
word_for Numeric = codes "NUMERIC"

-- A type of STRICT tables as PRAGMA table_info prints it; for any other, the word that has its affinity.
unfoldable pub type_for : (written : List ℕ) → List ℕ
type_for written =
    if is_standard (without_quotes (without_generated written)) then type_name written
    else word_for (type_affinity written)
