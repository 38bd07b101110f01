-- The columns of an index's entries where a key behind a rowid doesn't say them: of an index of a table WITHOUT ROWID, and of a
-- partial one (SQLite's withoutrowid and partialindex; fileformat2, 2.5).
use Rattle.std.specs.Prelude.{◌≡◌, ◌⊎◌, ◌<◌, ◌≤◌, ◌^◌, ℕ, Bool, true, false, List, [], ◌∷◌, ◌++◌, map, length, position, Some, None}
use Rattle.std.specs.List.{AllZip, Contains}
use Rattle.std.specs.Str.{str_eq_ignore_ascii_case}
use Rattle.sqlite_ast.specs.declared.CreateIndex.{CreateIndex}
use Rattle.sqlite_ast.specs.declared.CreateTable.{CreateTable}
use Rattle.sqlite_ast.specs.declared.Keyed.{Keyed}
use Rattle.sqlite_ast.specs.declared.TableBody.{TableBody}
use Rattle.sqkeys.specs.declared.entry_key.EntryKey.{EntryKey}
use Rattle.sqkeys.specs.declared.key.IndexKey.{IndexKey}
use Rattle.sqkeys.specs.declared.key.KeyColumn.{KeyColumn}
use Rattle.sqkeys.specs.declared.key.KeyColumn.TheVariants.{Rowid, Stored}
use Rattle.sqdefaults.specs.Defaults.{last_said}
use Rattle.sqtables.specs.Keys.{primary_in}
use Rattle.sqkeys.specs.Columns.{column_named}
use Rattle.sqkeys.specs.Constraints.{IsNumbered, IsNoNumber}
use Rattle.sqkeys.specs.Keyed.{MakesKeyed, IsNoKeyed, IsPrimaryOf, with_columns_of, stored, default_for}
use Rattle.sqkeys.specs.Keys.{ReadsAs, MakesRowids, IsNoTable, IsKeyOver, HasNoKey, key_for, order_of, most_text}

-- The text is longer than what is read, or makes no index with WHERE.
abbrev pub IsNotPartial : (index : List ℕ) → Type 0
IsNotPartial index = (most_text < length index) ⊎ ((indexed : CreateIndex) → ¬ ReadsAs index true indexed)

-- It is longer than what is read, or makes no index over columns.
abbrev pub ReadsAsNone : (index : List ℕ) → Type 0
ReadsAsNone index = (most_text < length index) ⊎ ((partial : Bool) (indexed : CreateIndex) → ¬ ReadsAs index partial indexed)

-- A column of an entry is the one that is named there, where the rows store it.
abbrev pub IsStoredAs : TableBody → (key : List Keyed) → (name : List ℕ) → KeyColumn → Type 0
IsStoredAs body key name Rowid = ⊥
IsStoredAs body key name (Stored at default) =
    (position (λ other. str_eq_ignore_ascii_case other name) (stored body key) ≡ Some at)
    × ((j : ℕ) × (column_named body name ≡ Some j) × (default_for body key name j ≡ Some default))

-- No column has this name, or what stands for it where it isn't stored is unknown.
abbrev pub IsNotStored : TableBody → (key : List Keyed) → (name : List ℕ) → Type 0
IsNotStored body key name =
    (column_named body name ≡ None)
    ⊎ ((position (λ other. str_eq_ignore_ascii_case other name) (stored body key) ≡ None)
    ⊎ ((j : ℕ) × (column_named body name ≡ Some j) × (default_for body key name j ≡ None)))

-- a column that is sorted upwards
abbrev pub rising : Keyed → Keyed
rising keyed = record { name = keyed.name; collation = keyed.collation; descending = false }

-- An entry of an index over these columns of a table WITHOUT ROWID has them, and behind them those of the primary key that don't
-- stand there by the same collation (2.5.1).
abbrev pub columns_of : TableBody → (named key : List Keyed) → List Keyed
columns_of body named key = with_columns_of body named key

-- These are the columns of the entries; those of the primary key are `behind`.
pub record IsEntryOver (body : TableBody) (format : ℕ) (named key behind : List Keyed) (entry : EntryKey) : Type 0 where
  pub columns : AllZip (λ keyed column. IsStoredAs body key keyed.name column) (columns_of body named behind) entry.columns.items
  pub ordered : entry.order ≡ order_of (map (key_for body format) (columns_of body named behind))
  pub width : entry.width ≡ length named
  pub keyed : entry.without_rowid ≡ true

-- Why they aren't known: their order needs more than 64 bits, or one of them isn't.
abbrev pub HasNoEntryOver : TableBody → (format : ℕ) → (named key behind : List Keyed) → Type 0
HasNoEntryOver body format named key behind =
    (2 ^ 64 ≤ (order_of (map (key_for body format) (columns_of body named behind))).digits)
    ⊎ ((keyed : Keyed) × Contains (columns_of body named behind) keyed × IsNotStored body key keyed.name)

-- The index over these columns of a table WITHOUT ROWID has such entries; DESC counts in those of the primary key, too.
abbrev pub IsKeyedOver : TableBody → (format : ℕ) → List Keyed → EntryKey → Type 0
IsKeyedOver body format named entry = (key : List Keyed) × IsPrimaryOf body key × IsEntryOver body format named key key entry

abbrev pub HasNoKeyedOver : TableBody → (format : ℕ) → List Keyed → Type 0
HasNoKeyedOver body format named =
    (last_said primary_in body.rules ≡ None) ⊎ ((key : List Keyed) × IsPrimaryOf body key × HasNoEntryOver body format named key key)

-- The index of a table WITHOUT ROWID, as their texts say, has such entries.
pub record IsKeyedEntryOf (table index : List ℕ) (format : ℕ) (entry : EntryKey) : Type 0 where
  pub made : CreateTable
  pub indexed : CreateIndex
  pub tabled : MakesKeyed table made
  pub written : ReadsAs index entry.partial indexed
  pub same : str_eq_ignore_ascii_case indexed.table made.name ≡ true
  pub over : IsKeyedOver made.body format indexed.columns entry
  pub unique : entry.unique ≡ indexed.is_unique

-- The texts are of such a table and an index, which is one of another table, or over columns of which no key is known.
pub record AreUnclearKeyed (table index : List ℕ) (format : ℕ) : Type 0 where
  pub made : CreateTable
  pub indexed : CreateIndex
  pub partial : Bool
  pub tabled : MakesKeyed table made
  pub written : ReadsAs index partial indexed
  pub because : (str_eq_ignore_ascii_case indexed.table made.name ≡ false) ⊎ HasNoKeyedOver made.body format indexed.columns

-- Why its entries aren't told.
abbrev pub HasNoKeyedEntry : (table index : List ℕ) → (format : ℕ) → Type 0
HasNoKeyedEntry table index format = IsNoKeyed table ⊎ (ReadsAsNone index ⊎ AreUnclearKeyed table index format)

-- The index of this number that the constraints of a table WITHOUT ROWID make has such entries; in those columns of the primary key
-- that it lacks DESC doesn't count (own: as SQLite has it).
pub record IsKeyedAutomatic (table : List ℕ) (number format : ℕ) (entry : EntryKey) : Type 0 where
  pub made : CreateTable
  pub named : List Keyed
  pub key : List Keyed
  pub tabled : MakesKeyed table made
  pub numbered : IsNumbered made.body number named
  pub primary : IsPrimaryOf made.body key
  pub over : IsEntryOver made.body format named key (map rising key) entry
  pub unique : entry.unique ≡ true
  pub whole : entry.partial ≡ false

abbrev pub HasNoKeyedAutomatic : (table : List ℕ) → (number format : ℕ) → Type 0
HasNoKeyedAutomatic table number format =
    IsNoKeyed table
    ⊎ ((made : CreateTable) × MakesKeyed table made × (IsNoNumber made.body number
    ⊎ ((last_said primary_in made.body.rules ≡ None)
    ⊎ ((named key : List Keyed) × IsNumbered made.body number named × IsPrimaryOf made.body key × HasNoEntryOver made.body format named key (map rising key)))))

-- An entry has the columns of a key, and behind them the rowid.
pub record IsWithRowid (index : IndexKey) (entry : EntryKey) : Type 0 where
  pub columns : entry.columns.items ≡ index.columns.items ++ Rowid ∷ []
  pub ordered : entry.order ≡ index.order
  pub width : entry.width ≡ length index.columns.items
  pub keyed : entry.without_rowid ≡ false

-- The entries of a partial index over these columns of a table with rowids.
abbrev pub IsPartialOver : TableBody → (format : ℕ) → List Keyed → EntryKey → Type 0
IsPartialOver body format named entry = (index : IndexKey) × IsKeyOver body format named index × IsWithRowid index entry

-- The partial index of a table with rowids, as their texts say, has such entries.
pub record IsPartialOf (table index : List ℕ) (format : ℕ) (entry : EntryKey) : Type 0 where
  pub made : CreateTable
  pub indexed : CreateIndex
  pub tabled : MakesRowids table made
  pub written : ReadsAs index true indexed
  pub same : str_eq_ignore_ascii_case indexed.table made.name ≡ true
  pub over : IsPartialOver made.body format indexed.columns entry
  pub unique : entry.unique ≡ indexed.is_unique
  pub some : entry.partial ≡ true

pub record AreUnclearPartial (table index : List ℕ) (format : ℕ) : Type 0 where
  pub made : CreateTable
  pub indexed : CreateIndex
  pub tabled : MakesRowids table made
  pub written : ReadsAs index true indexed
  pub because : (str_eq_ignore_ascii_case indexed.table made.name ≡ false) ⊎ HasNoKey made.body format indexed.columns

abbrev pub HasNoPartial : (table index : List ℕ) → (format : ℕ) → Type 0
HasNoPartial table index format = IsNoTable table ⊎ (IsNotPartial index ⊎ AreUnclearPartial table index format)
