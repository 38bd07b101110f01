-- How a table WITHOUT ROWID stores its rows (SQLite's withoutrowid; fileformat2, 2.4).
use Rattle.std.specs.Prelude.{◌≡◌, ◌⊎◌, ◌<◌, ◌≤◌, ◌^◌, ◌||◌, ℕ, true, not, if◌then◌else◌, List, [], ◌∷◌, ◌++◌, map, fold, length, slice_get, Option, Some, None}
use Rattle.std.specs.List.{AllZip, Contains, filter, list_any}
use Rattle.sqlite_ast.specs.declared.CreateTable.{CreateTable}
use Rattle.sqlite_ast.specs.declared.Keyed.{Keyed}
use Rattle.sqlite_ast.specs.declared.TableBody.{TableBody}
use Rattle.sqlite_value.specs.declared.value.Value.{Value}
use Rattle.sqlite_value.specs.declared.value.Value.TheVariants.{Null}
use Rattle.sqtables.specs.Keys.{primary_in}
use Rattle.sqkeys.specs.declared.keyed.RowKey.{RowKey}
use Rattle.sqkeys.specs.declared.row_rules.ColumnRule.{ColumnRule}
use Rattle.sqkeys.specs.Accepted.{accepts_at}
use Rattle.sqdefaults.specs.Defaults.{last_said}
use Rattle.sqkeys.specs.Columns.{column_named, default_at}
use Rattle.sqkeys.specs.Constraints.{is_like}
use Rattle.sqkeys.specs.Keys.{MakesSorted, key_for, order_of, most_text}
use Rattle.sqkeys.specs.RowRules.{has_column, is_not_null}

-- The text makes a table WITHOUT ROWID, whose collations SQLite has by itself.
abbrev pub MakesKeyed : List ℕ → CreateTable → Type 0
MakesKeyed text made = MakesSorted text true made

-- One more column, unless it stands there by the same collation.
abbrev pub with_column : TableBody → (before : List Keyed) → Keyed → List Keyed
with_column body before keyed = if list_any (is_like body keyed) before then before else before ++ keyed ∷ []

-- these columns, and those of the others that don't stand there (fileformat2, 2.4.1 and 2.5.1)
abbrev pub with_columns_of : TableBody → (before others : List Keyed) → List Keyed
with_columns_of body before others = fold (with_column body) before others

-- The columns of the primary key, each once.
abbrev pub IsPrimaryOf : TableBody → List Keyed → Type 0
IsPrimaryOf body key = (named : List Keyed) × (last_said primary_in body.rules ≡ Some named) × (key ≡ with_columns_of body [] named)

-- The names of the columns that a row stores: those of the key, and the others in the order of the text.
abbrev pub stored : TableBody → (key : List Keyed) → List (List ℕ)
stored body key = map (λ keyed. keyed.name) key ++ filter (λ name. not (has_column key name)) (map (λ column. column.0) body.columns)

-- What stands for column j, of this name, in a row that doesn't store it: each row stores the key.
abbrev pub default_for : TableBody → (key : List Keyed) → (name : List ℕ) → (j : ℕ) → Option Value
default_for body key name j = if has_column key name then Some Null else default_at body j

-- A column keeps to its NOT NULL, as which each of the key counts (withoutrowid, 2), and to its type.
pub record IsStoredRule (made : CreateTable) (key : List Keyed) (name : List ℕ) (rule : ColumnRule) : Type 0 where
  pub at : ℕ
  pub named : column_named made.body name ≡ Some at
  pub filled : rule.not_null ≡ (has_column key name || is_not_null made name)
  pub typed : accepts_at made.is_strict (slice_get made.body.columns at) ≡ Some rule.accepts
  pub default : rule.default ≡ default_for made.body key name at

-- No column has this name, or its type isn't understood.
abbrev pub HasNoRule : CreateTable → (name : List ℕ) → Type 0
HasNoRule made name =
    (column_named made.body name ≡ None)
    ⊎ ((j : ℕ) × (column_named made.body name ≡ Some j) × (accepts_at made.is_strict (slice_get made.body.columns j) ≡ None))

-- A row of the table begins with its key, sorted so, and its columns keep to these rules.
pub record IsRowKeyIn (made : CreateTable) (format : ℕ) (row : RowKey) : Type 0 where
  pub key : List Keyed
  pub primary : IsPrimaryOf made.body key
  pub width : row.width ≡ length key
  pub ordered : row.order ≡ order_of (map (key_for made.body format) key)
  pub ruled : AllZip (IsStoredRule made key) (stored made.body key) row.rules.items

-- The text makes a table WITHOUT ROWID that stores its rows so.
abbrev pub IsRowKeyOf : (table : List ℕ) → (format : ℕ) → RowKey → Type 0
IsRowKeyOf table format row = (made : CreateTable) × MakesKeyed table made × IsRowKeyIn made format row

-- The text is longer than what is read, or makes no table WITHOUT ROWID.
abbrev pub IsNoKeyed : List ℕ → Type 0
IsNoKeyed table = (most_text < length table) ⊎ ((made : CreateTable) → ¬ MakesKeyed table made)

-- It isn't known how the table stores its rows: it has no primary key, or one whose order needs more than 64 bits, or a column
-- of no known rule.
abbrev pub IsUnclearKeyed : CreateTable → (format : ℕ) → Type 0
IsUnclearKeyed made format =
    (last_said primary_in made.body.rules ≡ None)
    ⊎ ((key : List Keyed) × IsPrimaryOf made.body key
    × ((2 ^ 64 ≤ (order_of (map (key_for made.body format) key)).digits) ⊎ ((name : List ℕ) × Contains (stored made.body key) name × HasNoRule made name)))

-- Why it isn't told.
abbrev pub HasNoRowKey : (table : List ℕ) → (format : ℕ) → Type 0
HasNoRowKey table format = IsNoKeyed table ⊎ ((made : CreateTable) × MakesKeyed table made × IsUnclearKeyed made format)
