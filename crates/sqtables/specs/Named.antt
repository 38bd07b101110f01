-- The columns that the text of a table names (own).
use Rattle.std.specs.Prelude.{◌≡◌, ℕ, ◌⊎◌, true, false, List, [], map, length, Option, None, MatchOption, option_map}
use Rattle.sqlite_ast.specs.declared.CreateTable.{CreateTable}
use Rattle.sqlite_ast.specs.declared.Keyed.{Keyed}
use Rattle.schema_ast.specs.Tables.{MakesTable}
use Rattle.schema_ast.specs.declared.tables.MadeTable.{MadeTable}
use Rattle.sqdefaults.specs.Literals.{datum_in}
use Rattle.sqtables.specs.declared.columns.Columns.{Columns}
use Rattle.sqtables.specs.Defaults.{default_for, IsNeeded}
use Rattle.sqtables.specs.Keys.{HasPlainKey, places_of}
use Rattle.sqtables.specs.Texts.{IsAlias}

-- The columns have the names and the defaults of this table's, stand at these places, this one is another name for its rowid,
-- and rows must store as many as are needed.
pub record HasColumns (def : CreateTable) (alias : Option ℕ) (places : List ℕ) (columns : Columns) : Type 0 where
  pub names : map (λ n. n.items) columns.names.items ≡ map (λ c. c.0) def.body.columns
  pub aliased : columns.alias ≡ alias
  pub defaults : map (option_map datum_in) columns.defaults.items ≡ map (default_for def) def.body.columns
  pub placed : columns.places.items ≡ places
  pub needed : IsNeeded columns.defaults.items places columns.needed

-- No column is known.
pub record IsBare (columns : Columns) : Type 0 where
  pub unnamed : columns.names.items ≡ []
  pub unaliased : columns.alias ≡ None
  pub plain : columns.defaults.items ≡ []
  pub free : columns.needed ≡ 0
  pub unplaced : columns.places.items ≡ []

-- The columns are those of the table with rowids that the text makes, and its alias is the column that is one.
pub record AreRowidColumns (text : List ℕ) (columns : Columns) : Type 0 where
  pub made : MadeTable
  pub makes : MakesTable text made
  pub plain : made.computed ≡ false
  pub rowids : made.without_rowid ≡ false
  pub alias : Option ℕ
  pub names : MatchOption alias ((i : ℕ) → ¬ IsAlias made.def.body i) (IsAlias made.def.body)
  pub has : HasColumns made.def alias [] columns

-- They are those of the table WITHOUT ROWID that the text makes, of which those of its key are stored first.
pub record AreKeyColumns (text : List ℕ) (columns : Columns) : Type 0 where
  pub made : MadeTable
  pub makes : MakesTable text made
  pub plain : made.computed ≡ false
  pub keyed : made.without_rowid ≡ true
  pub keys : List Keyed
  pub key : HasPlainKey made.def.body keys
  pub has : HasColumns made.def None (places_of keys (length keys) made.def.body.columns) columns

-- No column is named: the table has a STORED column, or is WITHOUT ROWID and its key isn't understood.
abbrev pub IsUnnamed : MadeTable → Type 0
IsUnnamed made = (made.computed ≡ true) ⊎ ((made.without_rowid ≡ true) × ((keys : List Keyed) → ¬ HasPlainKey made.def.body keys))

-- The columns are those of one of both; or the text makes no table, or one of which no column is named, and none is known.
abbrev pub AreColumns : List ℕ → Columns → Type 0
AreColumns text columns =
    AreRowidColumns text columns
    ⊎ AreKeyColumns text columns
    ⊎ (((made : MadeTable) → MakesTable text made → IsUnnamed made) × IsBare columns)
