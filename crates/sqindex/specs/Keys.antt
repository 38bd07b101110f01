-- The keys of rows, and the entries that an index has for them (fileformat2, 2.4). The orders are those of the kit's
-- `sqlite_value`, and what bytes read as is said by its `sqlite_record`.
use Rattle.std.specs.Prelude.{◌≡◌, ℕ, ◌+◌, List, [], ◌∷◌, ◌++◌, map, length, slice_get, slice_index_or, Bool, false, Some, ℤ, pos, unwrap_or}
use Rattle.std.specs.Ordering.{int_eq}
use Rattle.std.specs.declared.cmp.Ordering.TheVariants.{Equal}
use Rattle.sqlite_record.specs.Record.{decode}
use Rattle.sqlite_value.specs.declared.value.Value.{Value}
use Rattle.sqlite_value.specs.declared.value.Value.TheVariants.{Null, Int}
use Rattle.sqlite_value.specs.Keys.{entry_cmp}
use Rattle.sqlite_value.specs.Order.{Row}
use Rattle.sqkeys.specs.declared.key.KeyColumn.{KeyColumn}
use Rattle.sqkeys.specs.declared.key.KeyColumn.TheVariants as columns
use Rattle.sqkeys.specs.declared.key.IndexKey.{IndexKey}
use Rattle.sqindex.specs.Stored.{Stored}

-- The value of a column in a row: its rowid, or what is stored there, or the default behind what is.
abbrev pub value_at : KeyColumn → (rowid : ℤ) → Row → Value
value_at columns.Rowid rowid row = Int rowid
value_at (columns.Stored at default) rowid row = slice_index_or row at default

-- The entry of a row: its columns of the key, and its rowid.
abbrev pub entry_for : List KeyColumn → (rowid : ℤ) → Row → Row
entry_for columns rowid row = map (λ column. value_at column rowid row) columns ++ Int rowid ∷ []

-- the values that a payload reads as, and the rowid of a row of a table
abbrev pub values_of : Stored → Row
values_of x = decode x.bytes

abbrev pub rowid_of : Stored → ℤ
rowid_of x = unwrap_or x.rowid (pos 0)

-- The entry is this row's, where an integer and a real number of one value agree.
abbrev pub IsEntryOf : IndexKey → (row entry : Stored) → Type 0
IsEntryOf key row entry = entry_cmp key.order (entry_for key.columns.items (rowid_of row) (values_of row)) (values_of entry) ≡ Equal

-- These are n columns and the rowid, an integer.
pub record IsKeyed (n : ℕ) (rowid : ℤ) (values : Row) : Type 0 where
  pub many : length values ≡ n + 1
  pub last : slice_get values n ≡ Some (Int rowid)

-- column n of an entry is this rowid
abbrev pub is_int : ℤ → Value → Bool
is_int rowid (Int m) = int_eq m rowid
is_int rowid _ = false

abbrev pub has_rowid : (n : ℕ) → (rowid : ℤ) → Row → Bool
has_rowid n rowid values = is_int rowid (slice_index_or values n Null)
