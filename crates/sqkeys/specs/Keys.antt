-- The key of an index, from its text and that of its table (SQLite's lang_createindex; datatype3, 7; fileformat2, 1.3.8).
use Rattle.std.specs.Prelude.{◌≡◌, ◌⊎◌, ◌<◌, ◌≤◌, ◌+◌, ◌*◌, ◌^◌, ◌&&◌, nat_eq, ℕ, Bool, true, false, List, [], ◌∷◌, map, length, unwrap_or}
use Rattle.std.specs.List.{AllZip}
use Rattle.std.specs.Str.{str_eq_ignore_ascii_case}
use Rattle.sqlite_ast.specs.declared.CreateIndex.{CreateIndex}
use Rattle.sqlite_ast.specs.declared.CreateTable.{CreateTable}
use Rattle.sqlite_ast.specs.declared.Keyed.{Keyed}
use Rattle.sqlite_ast.specs.declared.TableBody.{TableBody}
use Rattle.sqlite_value.specs.declared.keys.Key.{Key}
use Rattle.sqlite_value.specs.declared.keys.Order.{Order}
use Rattle.sqlite_value.specs.Keys.{digit, plain}
use Rattle.std.specs.List.{Contains}
use Rattle.schema_ast.specs.Tables.{MakesTable}
use Rattle.schema_ast.specs.Indexes.{MakesIndex}
use Rattle.schema_ast.specs.declared.tables.MadeTable.{MadeTable}
use Rattle.schema_ast.specs.declared.indexes.MadeIndex.{MadeIndex}
use Rattle.sqkeys.specs.declared.key.IndexKey.{IndexKey}
use Rattle.sqkeys.specs.Columns.{collation_of, IsKeyColumn, IsUnclear}

-- the longest text that is read (own)
abbrev pub most_text : ℕ
most_text = 1048576

-- The text makes this table, WITHOUT ROWID or with rowids. SQLite has the collations of its columns and keys by itself, and no
-- VIRTUAL column keeps to a rule.
pub record MakesSorted (text : List ℕ) (without_rowid : Bool) (def : CreateTable) : Type 0 where
  pub made : MadeTable
  pub makes : MakesTable text made
  pub is : made.without_rowid ≡ without_rowid
  pub clear : made.clear ≡ true
  pub free : made.bound ≡ false
  pub same : made.def ≡ def

-- The text makes this index over columns, with WHERE or without.
pub record ReadsAs (text : List ℕ) (partial : Bool) (def : CreateIndex) : Type 0 where
  pub made : MadeIndex
  pub makes : MakesIndex text made
  pub is : made.partial ≡ partial
  pub same : made.def ≡ def

-- How a column is sorted: by the collation that is written there, or by the column's own (datatype3, 7.2); falling where DESC is
-- written, which counts only in schema format 4 (fileformat2, 1.3.8).
abbrev pub key_for : TableBody → (format : ℕ) → Keyed → Key
key_for body format keyed = record {
  collation = unwrap_or keyed.collation (collation_of body keyed.name);
  descending = keyed.descending && nat_eq format 4;
}

-- the order of these keys, one after another
abbrev pub order_of : List Key → Order
order_of [] = plain
order_of (key ∷ keys) = record { digits = digit key + 8 * (order_of keys).digits }

-- The key over these columns of a table, in their order.
pub record IsKeyOver (body : TableBody) (format : ℕ) (named : List Keyed) (key : IndexKey) : Type 0 where
  pub columns : AllZip (IsKeyColumn body) named key.columns.items
  pub ordered : key.order ≡ order_of (map (key_for body format) named)

-- No key is known over these columns: their order needs more than 64 bits, or one of them is unclear.
abbrev pub HasNoKey : TableBody → (format : ℕ) → List Keyed → Type 0
HasNoKey body format named =
    (2 ^ 64 ≤ (order_of (map (key_for body format) named)).digits) ⊎ ((keyed : Keyed) × Contains named keyed × IsUnclear body keyed)

-- The text makes such a table with rowids.
abbrev pub MakesRowids : List ℕ → CreateTable → Type 0
MakesRowids text made = MakesSorted text false made

-- The index of a table, as their texts say, has this key.
pub record IsKeyOf (table index : List ℕ) (format : ℕ) (key : IndexKey) : Type 0 where
  pub made : CreateTable
  pub indexed : CreateIndex
  pub tabled : MakesRowids table made
  pub written : ReadsAs index false indexed
  pub same : str_eq_ignore_ascii_case indexed.table made.name ≡ true
  pub over : IsKeyOver made.body format indexed.columns key
  pub unique : key.unique ≡ indexed.is_unique

-- The text is longer than what is read, or makes no such table, or no index without WHERE.
abbrev pub IsNoTable : List ℕ → Type 0
IsNoTable table = (most_text < length table) ⊎ ((made : CreateTable) → ¬ MakesRowids table made)

abbrev pub IsNoIndex : List ℕ → Type 0
IsNoIndex index = (most_text < length index) ⊎ ((indexed : CreateIndex) → ¬ ReadsAs index false indexed)

-- The texts are of a table and an index, which is one of another table, or over columns of which no key is known.
pub record AreUnclear (table index : List ℕ) (format : ℕ) : Type 0 where
  pub made : CreateTable
  pub indexed : CreateIndex
  pub tabled : MakesRowids table made
  pub written : ReadsAs index false indexed
  pub because : (str_eq_ignore_ascii_case indexed.table made.name ≡ false) ⊎ HasNoKey made.body format indexed.columns

-- Why the key of an index isn't told.
abbrev pub IsNotUnderstood : (table index : List ℕ) → (format : ℕ) → Type 0
IsNotUnderstood table index format = IsNoTable table ⊎ (IsNoIndex index ⊎ AreUnclear table index format)
