-- An index of a table WITHOUT ROWID, or a partial one, against its table (SQLite's withoutrowid and partialindex; fileformat2, 1.6
-- and 2.5).
use Rattle.std.specs.Prelude.{◌≡◌, ◌⊎◌, ◌<◌, ℕ, Bool, true, false, List, [], ◌∷◌, map, length, slice_get, Some, is_none}
use Rattle.std.specs.List.{All, AllZip}
use Rattle.std.specs.List.Sorted.{IsPermutation}
use Rattle.std.specs.declared.cmp.Ordering.TheVariants.{Less, Equal}
use Rattle.sqval.specs.Database.{Database}
use Rattle.sqval.specs.Record.{most_bytes}
use Rattle.sqlite_value.specs.Keys.{entry_cmp}
use Rattle.sqlite_value.specs.Order.{Row}
use Rattle.sqkeys.specs.declared.entry_key.EntryKey.{EntryKey}
use Rattle.sqindex.specs.declared.fault.IndexFault.{IndexFault}
use Rattle.sqindex.specs.declared.fault.IndexFault.TheVariants as faults
use Rattle.sqindex.specs.declared.error.IndexError.{IndexError}
use Rattle.sqindex.specs.declared.error.IndexError.TheVariants as errors
use Rattle.sqindex.specs.Stored.{Stored, HasStored}
use Rattle.sqindex.specs.Keys.{value_at, values_of, rowid_of}
use Rattle.sqindex.specs.Rules.{HasEntries, Ascend, AreApart, IsSameKey}
use Rattle.sqindex.specs.Indexes.{ReadRefused, NoEntries, IsLimit, StandsBehind, memory_of}

-- The rows of a table in order: its cells have rowids, or have none where it is one WITHOUT ROWID.
pub record HasRows (d : Database) (root : ℕ) (without_rowid : Bool) (rows : List Stored) : Type 0 where
  pub stored : HasStored d root rows
  pub kind : All (λ row. is_none row.rowid ≡ without_rowid) rows

-- The entry of a row: its value in each of the columns.
abbrev pub entry_by : EntryKey → (row : Stored) → Row
entry_by key row = map (λ column. value_at column (rowid_of row) (values_of row)) key.columns.items

-- The entry is this row's, where an integer and a real number of one value agree.
abbrev pub IsEntryBy : EntryKey → (row entry : Stored) → Type 0
IsEntryBy key row entry = entry_cmp key.order (entry_by key row) (values_of entry) ≡ Equal

-- Each entry has n columns.
abbrev pub AreWide : (n : ℕ) → List Stored → Type 0
AreWide n entries = All (λ entry. length (values_of entry) ≡ n) entries

-- These are some of the rows, in their order.
abbrev pub ArePicked : (picked rows : List Stored) → Type 0
ArePicked [] rows = Unit {0}
ArePicked (x ∷ picked) [] = ⊥
ArePicked (x ∷ picked) (row ∷ rows) = ((x ≡ row) × ArePicked picked rows) ⊎ ArePicked (x ∷ picked) rows

-- The rows that have an entry: all of them, or in a partial index some.
abbrev pub HaveEntries : (partial : Bool) → (picked rows : List Stored) → Type 0
HaveEntries false picked rows = picked ≡ rows
HaveEntries true picked rows = ArePicked picked rows

-- The entries are those of the rows that have one, of each of these one: in some order each is that of a row.
abbrev pub MatchBy : EntryKey → (rows entries : List Stored) → Type 0
MatchBy key rows entries =
    (picked found : List Stored) × HaveEntries key.partial picked rows × IsPermutation found entries × AllZip (IsEntryBy key) picked found

-- The tree of one root is the index with these entries of the table in that of the other, and has n: each has its columns, they are
-- in order, in a UNIQUE index apart, and just those of the table's rows, or in a partial index those of some.
pub record IsIndexBy (d : Database) (table index : ℕ) (key : EntryKey) (n : ℕ) : Type 0 where
  pub rows : List Stored
  pub entries : List Stored
  pub of_table : HasRows d table key.without_rowid rows
  pub of_index : HasEntries d index entries
  pub formed : AreWide (length key.columns.items) entries
  pub ascend : Ascend key.order entries
  pub apart : key.unique ≡ true → AreApart key.order key.width entries
  pub match : MatchBy key rows entries
  pub many : length entries ≡ n

-- What is wrong with entry i, which is x, among the entries.
abbrev pub EntryIsWrong : EntryKey → (entries : List Stored) → (i : ℕ) → (x : Stored) → IndexFault → Type 0
EntryIsWrong key entries i x faults.EntryForm = ¬ (length (values_of x) ≡ length key.columns.items)
EntryIsWrong key entries i x faults.EntryOrder = StandsBehind (λ a b. ¬ (entry_cmp key.order (values_of a) (values_of b) ≡ Less)) entries i x
EntryIsWrong key entries i x faults.KeyTwice = (key.unique ≡ true) × StandsBehind (λ a b. IsSameKey key.order key.width (values_of a) (values_of b)) entries i x
EntryIsWrong key entries i x _ = ⊥

-- Row i, which is x, has no entry of its own: each that is its entry is that of a row before it, too.
abbrev pub HasNoOwnEntry : EntryKey → (rows entries : List Stored) → (i : ℕ) → (x : Stored) → Type 0
HasNoOwnEntry key rows entries i x = (j : ℕ) (entry : Stored) → slice_get entries j ≡ Some entry → IsEntryBy key x entry
    → (h : ℕ) × (row : Stored) × (h < i) × (slice_get rows h ≡ Some row) × IsEntryBy key row entry

-- The entry is that of no row.
abbrev pub IsOfNoRow : EntryKey → (rows : List Stored) → (entry : Stored) → Type 0
IsOfNoRow key rows entry = (j : ℕ) (row : Stored) → slice_get rows j ≡ Some row → ¬ IsEntryBy key row entry

-- The fault stands at cell `cell` of page `page`: at a row of an index that isn't partial, at an entry that has no row, or at one
-- that is wrong among the entries.
abbrev pub StandsBy : Database → (table index : ℕ) → EntryKey → IndexFault → (page cell : ℕ) → Type 0
StandsBy d table index key faults.RowWithoutEntry page cell =
    (key.partial ≡ false) × (rows entries : List Stored) × (i : ℕ) × (x : Stored) × HasRows d table key.without_rowid rows × HasEntries d index entries
    × (slice_get rows i ≡ Some x) × (x.page ≡ page) × (x.cell ≡ cell) × HasNoOwnEntry key rows entries i x
StandsBy d table index key faults.EntryOfNoRow page cell =
    (rows entries : List Stored) × (i : ℕ) × (x : Stored) × HasRows d table key.without_rowid rows × HasEntries d index entries
    × (slice_get entries i ≡ Some x) × (x.page ≡ page) × (x.cell ≡ cell) × IsOfNoRow key rows x
StandsBy d table index key fault page cell =
    (entries : List Stored) × (i : ℕ) × (x : Stored) × HasEntries d index entries
    × (slice_get entries i ≡ Some x) × (x.page ≡ page) × (x.cell ≡ cell) × EntryIsWrong key entries i x fault

-- the table has no rows of its kind
abbrev pub NoRowsOf : Database → (table : ℕ) → (without_rowid : Bool) → Type 0
NoRowsOf d table without_rowid = (rows : List Stored) → ¬ HasRows d table without_rowid rows

-- Why an index isn't found sound: a tree isn't read, a fault stands at a cell, or the entries take more memory than they may.
abbrev pub IndexRefusedBy : Database → (table index : ℕ) → EntryKey → (limit : ℕ) → IndexError → Type 0
IndexRefusedBy d table index key limit (errors.Table e) = ReadRefused d table most_bytes (NoRowsOf d table key.without_rowid) e
IndexRefusedBy d table index key limit (errors.Index e) = ReadRefused d index limit (NoEntries d index) e
IndexRefusedBy d table index key limit (errors.Entry e) = StandsBy d table index key e.fault e.page e.cell
IndexRefusedBy d table index key limit errors.TooLarge = (entries : List Stored) → HasEntries d index entries → limit < memory_of entries

-- What a refusal refutes: that the tree is the table's index, unless by a limit.
abbrev pub RefutesIndexBy : Database → (table index : ℕ) → EntryKey → IndexError → Type 0
RefutesIndexBy d table index key (errors.Table e) = ¬ IsLimit e → (n : ℕ) → ¬ IsIndexBy d table index key n
RefutesIndexBy d table index key (errors.Index e) = ¬ IsLimit e → (n : ℕ) → ¬ IsIndexBy d table index key n
RefutesIndexBy d table index key (errors.Entry e) = (n : ℕ) → ¬ IsIndexBy d table index key n
RefutesIndexBy d table index key errors.TooLarge = Unit {0}
