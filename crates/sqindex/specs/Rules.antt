-- An index against its table (fileformat2, 1.6 and 2.4).
use Rattle.std.specs.Prelude.{◌≡◌, ◌<◌, ◌+◌, ℕ, true, List, length, take, slice_get, Some, None, IsSome, ℤ, ◌<ℤ◌}
use Rattle.std.specs.List.{All, AllZip}
use Rattle.std.specs.List.Sorted.{IsPermutation}
use Rattle.std.specs.declared.cmp.Ordering.TheVariants.{Less, Equal}
use Rattle.sqval.specs.Database.{Database}
use Rattle.sqlite_value.specs.declared.keys.Order.{Order}
use Rattle.sqlite_value.specs.declared.value.Value.TheVariants.{Null}
use Rattle.sqlite_value.specs.Keys.{entry_cmp, prefix_cmp}
use Rattle.sqlite_value.specs.Order.{Row, column}
use Rattle.sqkeys.specs.declared.key.IndexKey.{IndexKey}
use Rattle.sqindex.specs.Stored.{Stored, HasStored}
use Rattle.sqindex.specs.Keys.{values_of, rowid_of, IsEntryOf, IsKeyed}

-- how many columns a key has
abbrev pub width : IndexKey → ℕ
width key = length key.columns.items

-- Each row's rowid is below that of the next one.
abbrev pub Rise : List Stored → Type 0
Rise rows = (i : ℕ) (a b : Stored) → slice_get rows i ≡ Some a → slice_get rows (i + 1) ≡ Some b → rowid_of a <ℤ rowid_of b

-- The rows of a table in order: its cells have rowids, which rise.
pub record HasKeyedRows (d : Database) (root : ℕ) (rows : List Stored) : Type 0 where
  pub stored : HasStored d root rows
  pub keyed : All (λ row. IsSome row.rowid) rows
  pub rise : Rise rows

-- The entries of an index in order: its cells have no rowids of their own.
pub record HasEntries (d : Database) (root : ℕ) (entries : List Stored) : Type 0 where
  pub stored : HasStored d root entries
  pub plain : All (λ entry. entry.rowid ≡ None) entries

-- Each entry has the key's columns and an integer as rowid.
abbrev pub AreFormed : (n : ℕ) → List Stored → Type 0
AreFormed n entries = All (λ entry. (rowid : ℤ) × IsKeyed n rowid (values_of entry)) entries

-- Each entry comes before the next one in the index's order.
abbrev pub Ascend : Order → List Stored → Type 0
Ascend order entries = (i : ℕ) (a b : Stored) → slice_get entries i ≡ Some a → slice_get entries (i + 1) ≡ Some b
    → entry_cmp order (values_of a) (values_of b) ≡ Less

-- some of the first n columns is NULL
abbrev pub HasNull : (n : ℕ) → Row → Type 0
HasNull n a = (j : ℕ) × (j < n) × (column a j ≡ Null)

-- all of the n columns of a key are the same, and none of them is NULL
abbrev pub IsSameKey : Order → (n : ℕ) → (a b : Row) → Type 0
IsSameKey order n a b = (prefix_cmp order a (take n b) ≡ Equal) × ¬ HasNull n a

-- No two entries next to each other have the same key.
abbrev pub AreApart : Order → (n : ℕ) → List Stored → Type 0
AreApart order n entries = (i : ℕ) (a b : Stored) → slice_get entries i ≡ Some a → slice_get entries (i + 1) ≡ Some b
    → ¬ IsSameKey order n (values_of a) (values_of b)

-- The entries are those of the rows, of each row one: in some order each is that of a row.
abbrev pub Match : IndexKey → (rows entries : List Stored) → Type 0
Match key rows entries = (found : List Stored) × IsPermutation found entries × AllZip (IsEntryOf key) rows found

-- The tree of one root is the index with this key of the table in that of the other, and has n entries: each has the key's
-- form, they are in order, in a UNIQUE index apart, and just those of the table's rows.
pub record IsIndexOf (d : Database) (table index : ℕ) (key : IndexKey) (n : ℕ) : Type 0 where
  pub rows : List Stored
  pub entries : List Stored
  pub of_table : HasKeyedRows d table rows
  pub of_index : HasEntries d index entries
  pub formed : AreFormed (width key) entries
  pub ascend : Ascend key.order entries
  pub apart : key.unique ≡ true → AreApart key.order (width key) entries
  pub match : Match key rows entries
  pub many : length entries ≡ n
