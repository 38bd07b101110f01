-- The columns of a key, as the texts of a table and an index say (SQLite's lang_createtable and lang_altertable).
use Rattle.std.specs.Prelude.{◌≡◌, ◌⊎◌, ℕ, if◌then◌else◌, List, slice_get, position, Option, Some, None, option_map, unwrap_or, is_nan, from_bits}
use Rattle.std.specs.Str.{str_eq_ignore_ascii_case}
use Rattle.std.specs.Float.{Float, binary64}
use Rattle.std.specs.Int.{w64, from_be_bytes}
use Rattle.sqlite_ast.specs.Layer.{Layer}
use Rattle.sqlite_ast.specs.declared.Expr.{Expr, out-Expr}
use Rattle.sqlite_ast.specs.declared.Expr.TheOpen.{Expr-F}
use Rattle.sqlite_ast.specs.declared.Keyed.{Keyed}
use Rattle.sqlite_ast.specs.declared.Rule.{Rule}
use Rattle.sqlite_ast.specs.declared.Rule.TheVariants.{Collate}
use Rattle.sqlite_ast.specs.declared.TableBody.{TableBody}
use Rattle.sqlite_value.specs.declared.value.Value.{Value}
use Rattle.sqlite_value.specs.declared.value.Value.TheVariants.{Null, Int, Real, Text, Blob}
use Rattle.sqlite_value.specs.declared.keys.Collation.{Collation}
use Rattle.sqlite_value.specs.declared.keys.Collation.TheVariants.{Binary}
use Rattle.sqtables.specs.Texts.{IsAlias}
use Rattle.sqkeys.specs.declared.key.KeyColumn.{KeyColumn}
use Rattle.sqkeys.specs.declared.key.KeyColumn.TheVariants.{Rowid, Stored}
use Rattle.sqdefaults.specs.declared.affinity.Affinity.{Affinity}
use Rattle.sqdefaults.specs.Affinities.{affinity_of}
use Rattle.sqdefaults.specs.Defaults.{default_in, last_said}
use Rattle.sqdefaults.specs.Defaults as literals
use Rattle.sqval.specs.Datum.{Datum}
use Rattle.sqval.specs.Datum as datum
use Rattle.sqkeys.specs.Affinities.{keeps}

-- The first column of this name, where ASCII's small letters are its capitals.
abbrev pub column_named : TableBody → (name : List ℕ) → Option ℕ
column_named body name = position (λ column. str_eq_ignore_ascii_case column.0 name) body.columns

-- the collation that a rule says of the column of this name
abbrev pub collation_in : (name : List ℕ) → Rule → Option Collation
collation_in name (Collate column collation) = if str_eq_ignore_ascii_case column name then Some collation else None
collation_in name _ = None

-- The collation of a column: what its last COLLATE says, or BINARY (datatype3, 7.1).
abbrev pub collation_of : TableBody → (name : List ℕ) → Collation
collation_of body name = unwrap_or (last_said (collation_in name) body.rules) Binary

-- the value, where a column of this affinity keeps it
abbrev pub kept : Affinity → Option Value → Option Value
kept affinity (Some value) = if keeps affinity value then Some value else None
kept affinity None = None

-- a real; NULL where it is no number
abbrev pub real_of : Float → Value
real_of x = if is_nan x then Null else Real x

-- the value as keys have it, of a real the number that its eight bytes are (fileformat2, 2.1)
abbrev pub value_of : Datum → Value
value_of datum.null = Null
value_of (datum.integer n) = Int n
value_of (datum.real bytes) = real_of (from_bits binary64 (from_be_bytes w64 bytes))
value_of (datum.text bytes) = Text bytes
value_of (datum.blob bytes) = Blob bytes

-- What the last default that the rules say of the column of this name says, which is stated so. One that reads the present time
-- stands for NULL: ALTER TABLE ADD COLUMN takes none where there are rows.
abbrev pub stated_by : Affinity → (name : List ℕ) → List Rule → Layer → Option Value
stated_by affinity name rules (Expr-F.Parameter n) = Some Null
stated_by affinity name rules (Expr-F.Text bytes) = kept affinity (Some (Text bytes))
stated_by affinity name rules _ = kept affinity (option_map value_of (literals.default_of affinity name rules))

abbrev pub default_stated : Affinity → (name : List ℕ) → List Rule → Option Expr → Option Value
default_stated affinity name rules (Some e) = stated_by affinity name rules (out-Expr e)
default_stated affinity name rules None = Some Null

abbrev pub default_by : Affinity → (name : List ℕ) → List Rule → Option Value
default_by affinity name rules = default_stated affinity name rules (last_said (default_in name) rules)

abbrev pub default_of : List Rule → Option (List ℕ × List ℕ) → Option Value
default_of rules (Some column) = default_by (affinity_of column.1) column.0 rules
default_of rules None = None

-- What stands for column j in a row that doesn't store it (lang_altertable, "ALTER TABLE ADD COLUMN"): its last DEFAULT, or NULL.
-- None where that is no literal, or it isn't known that the column keeps it as it is.
abbrev pub default_at : TableBody → (j : ℕ) → Option Value
default_at body j = default_of body.rules (slice_get body.columns j)

-- Column j of a table is found so in its rows: it is another name for their rowids, or the j-th that they store.
abbrev pub IsFoundAs : TableBody → (j : ℕ) → KeyColumn → Type 0
IsFoundAs body j Rowid = IsAlias body j
IsFoundAs body j (Stored at default) = (¬ IsAlias body j) × (at ≡ j) × (default_at body j ≡ Some default)

-- The column of a key is the one that is named there.
pub record IsKeyColumn (body : TableBody) (keyed : Keyed) (column : KeyColumn) : Type 0 where
  pub at : ℕ
  pub named : column_named body keyed.name ≡ Some at
  pub found : IsFoundAs body at column

-- No column has the name that is named there, or what stands for it where it isn't stored is unknown.
abbrev pub IsUnclear : TableBody → Keyed → Type 0
IsUnclear body keyed =
    (column_named body keyed.name ≡ None)
    ⊎ ((j : ℕ) × (column_named body keyed.name ≡ Some j) × (¬ IsAlias body j) × (default_at body j ≡ None))
