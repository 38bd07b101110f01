-- What the rows of a table keep to (SQLite's lang_createtable, "NOT NULL constraints"; stricttables, 2; lang_altertable, "ALTER
-- TABLE ADD COLUMN").
use Rattle.std.specs.Prelude.{◌≡◌, ◌⊎◌, ◌<◌, ℕ, ◌&&◌, Bool, false, List, length, slice_get, Option, Some, None}
use Rattle.std.specs.List.{list_any}
use Rattle.std.specs.Str.{str_eq_ignore_ascii_case}
use Rattle.sqlite_ast.specs.declared.CreateTable.{CreateTable}
use Rattle.sqlite_ast.specs.declared.Keyed.{Keyed}
use Rattle.sqlite_ast.specs.declared.Rule.{Rule}
use Rattle.sqlite_ast.specs.declared.Rule.TheVariants.{NotNull, PrimaryKey, DescendingKey, CountedKey}
use Rattle.sqlite_value.specs.declared.value.Value.TheVariants.{Null}
use Rattle.sqtables.specs.Texts.{IsAlias}
use Rattle.sqkeys.specs.declared.accepts.Accepts.TheVariants.{All}
use Rattle.sqkeys.specs.declared.row_rules.ColumnRule.{ColumnRule}
use Rattle.sqkeys.specs.Accepted.{accepts_at}
use Rattle.sqkeys.specs.Columns.{default_at}
use Rattle.sqkeys.specs.Keys.{most_text}
use Rattle.schema_ast.specs.Tables.{MakesTable}
use Rattle.schema_ast.specs.declared.tables.MadeTable.{MadeTable}

-- the key has a column of this name, where ASCII's small letters are its capitals
abbrev pub has_column : List Keyed → (name : List ℕ) → Bool
has_column keys name = list_any (λ keyed. str_eq_ignore_ascii_case keyed.name name) keys

-- The rule forbids NULL in the column of this name: NOT NULL, and in a STRICT table the primary key (stricttables, 2).
abbrev pub forbids_null : (is_strict : Bool) → (name : List ℕ) → Rule → Bool
forbids_null is_strict name (NotNull column) = str_eq_ignore_ascii_case column name
forbids_null is_strict name (PrimaryKey keys) = is_strict && has_column keys name
forbids_null is_strict name (DescendingKey keys) = is_strict && has_column keys name
forbids_null is_strict name (CountedKey keys) = is_strict && has_column keys name
forbids_null is_strict name _ = false

abbrev pub is_not_null : CreateTable → (name : List ℕ) → Bool
is_not_null made name = list_any (forbids_null made.is_strict name) made.body.rules

abbrev pub is_not_null_at : CreateTable → Option (List ℕ × List ℕ) → Bool
is_not_null_at made (Some column) = is_not_null made column.0
is_not_null_at made None = false

-- what another name for the rowid keeps to: rows store it as NULL
abbrev pub is_free : ColumnRule
is_free = record { not_null = false; accepts = All; default = Some Null }

-- A column of a table keeps to its NOT NULL and to its type, and its default stands where it isn't stored.
pub record IsTyped (made : CreateTable) (j : ℕ) (rule : ColumnRule) : Type 0 where
  pub filled : rule.not_null ≡ is_not_null_at made (slice_get made.body.columns j)
  pub typed : accepts_at made.is_strict (slice_get made.body.columns j) ≡ Some rule.accepts
  pub default : rule.default ≡ default_at made.body j

-- Column j of a table keeps to this.
abbrev pub IsRuleOf : CreateTable → (j : ℕ) → ColumnRule → Type 0
IsRuleOf made j rule = (IsAlias made.body j × (rule ≡ is_free)) ⊎ ((¬ IsAlias made.body j) × IsTyped made j rule)

-- The type of column j isn't understood.
abbrev pub IsUntyped : CreateTable → (j : ℕ) → Type 0
IsUntyped made j = (j < length made.body.columns) × (accepts_at made.is_strict (slice_get made.body.columns j) ≡ None)

-- These are what the columns keep to, one after another.
pub record AreRulesIn (made : CreateTable) (rules : List ColumnRule) : Type 0 where
  pub many : length rules ≡ length made.body.columns
  pub each : (j : ℕ) (rule : ColumnRule) → slice_get rules j ≡ Some rule → IsRuleOf made j rule

-- The text makes this table with rowids, and no VIRTUAL column keeps to a rule: rows store each that does.
pub record MakesRows (text : List ℕ) (def : CreateTable) : Type 0 where
  pub made : MadeTable
  pub makes : MakesTable text made
  pub rowids : made.without_rowid ≡ false
  pub free : made.bound ≡ false
  pub same : made.def ≡ def

-- The text makes a table with rowids whose columns keep to these.
abbrev pub AreRulesOf : (table : List ℕ) → List ColumnRule → Type 0
AreRulesOf table rules = (made : CreateTable) × MakesRows table made × AreRulesIn made rules

-- The text is longer than what is read, or makes no such table.
abbrev pub HasNoRows : (table : List ℕ) → Type 0
HasNoRows table = (most_text < length table) ⊎ ((made : CreateTable) → ¬ MakesRows table made)

-- Why it isn't known what they keep to: the text makes no table with rowids, or the type of a column isn't understood.
abbrev pub HasNoRules : (table : List ℕ) → Type 0
HasNoRules table = HasNoRows table ⊎ ((made : CreateTable) × MakesRows table made × ((j : ℕ) × IsUntyped made j))
