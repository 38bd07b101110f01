-- Words of the functions that look for the entry of each row, and mark it (own). No public contract cites them.
use Rattle.std.specs.Prelude.{◌≡◌, ◌⊎◌, ◌+◌, ℕ, Bool, true, false, List, [], ◌∷◌, ◌++◌, length, slice_get, Option, Some, None, is_none, Result, MatchResult}
use Rattle.std.specs.List.{All, AllZip}
use Rattle.std.specs.List.Sorted.{IsPermutation}
use Rattle.std.specs.declared.cmp.Ordering.{Ordering}
use Rattle.std.specs.declared.cmp.Ordering.TheVariants.{Less, Equal, Greater}
use Rattle.sqval.specs.Database.{Database}
use Rattle.sqval.specs.Record.{most_bytes}
use Rattle.sqrows.specs.declared.cells.Cells.{Cells}
use Rattle.sqlite_value.specs.Keys.{entry_cmp}
use Rattle.sqlite_value.specs.Order.{Row}
use Rattle.sqkeys.specs.declared.entry_key.EntryKey.{EntryKey}
use Rattle.sqindex.specs.declared.fault.IndexFault.{IndexFault}
use Rattle.sqindex.specs.declared.fault.IndexFault.TheVariants as faults
use Rattle.sqindex.specs.declared.error.EntryError.{EntryError}
use Rattle.sqindex.specs.declared.error.IndexError.{IndexError}
use Rattle.sqindex.specs.declared.error.IndexError.TheVariants as errors
use Rattle.sqindex.specs.declared.marks.Marks.{Marks}
use Rattle.sqindex.specs.Stored.{Stored}
use Rattle.sqindex.specs.Keys.{values_of}
use Rattle.sqindex.specs.Rules.{Ascend, AreApart, IsSameKey}
use Rattle.sqindex.specs.Indexes.{ReadRefused}
use Rattle.sqindex.specs.EntryIndexes.{HasRows, IsEntryBy, AreWide, HaveEntries, MatchBy, EntryIsWrong, HasNoOwnEntry, IsOfNoRow, NoRowsOf}
use Rattle.sqindex.specs.internal.Judging.{at_place}
use Rattle.sqindex.specs.internal.Reading.{AreTaken}

-- The rules that the entries follow by themselves.
pub record AreSoundBy (key : EntryKey) (xs : List Stored) : Type 0 where
  pub formed : AreWide (length key.columns.items) xs
  pub ascend : Ascend key.order xs
  pub apart : key.unique ≡ true → AreApart key.order key.width xs

-- The second entry may come behind the first, or may not.
pub record IsBehindBy (key : EntryKey) (a b : Row) : Type 0 where
  pub behind : entry_cmp key.order a b ≡ Less
  pub apart : key.unique ≡ true → ¬ IsSameKey key.order key.width a b

abbrev pub NotBehindBy : EntryKey → (a b : Row) → IndexFault → Type 0
NotBehindBy key a b faults.EntryOrder = ¬ (entry_cmp key.order a b ≡ Less)
NotBehindBy key a b faults.KeyTwice = (key.unique ≡ true) × IsSameKey key.order key.width a b
NotBehindBy key a b _ = ⊥

-- Entry i has its columns, and comes behind the one before it.
pub record IsSoundBy (key : EntryKey) (xs : List Stored) (i : ℕ) : Type 0 where
  pub wide : length (values_of (at_place xs i)) ≡ length key.columns.items
  pub behind : (h : ℕ) → i ≡ h + 1 → IsBehindBy key (values_of (at_place xs h)) (values_of (at_place xs i))

-- Why the entries aren't sound.
abbrev pub WrongBy : EntryKey → (xs : List Stored) → EntryError → Type 0
WrongBy key xs e = (i : ℕ) × (x : Stored) × (slice_get xs i ≡ Some x) × (x.page ≡ e.page) × (x.cell ≡ e.cell) × EntryIsWrong key xs i x e.fault

-- those that aren't marked
abbrev pub unmarked : (marks : List Bool) → List Stored → List Stored
unmarked [] xs = xs
unmarked (mark ∷ marks) [] = []
unmarked (true ∷ marks) (x ∷ xs) = unmarked marks xs
unmarked (false ∷ marks) (x ∷ xs) = x ∷ unmarked marks xs

-- The entry at this place is marked, and is the row's.
abbrev pub IsMarked : EntryKey → List Stored → (marks : List Bool) → (row : Stored) → (at : ℕ) → Type 0
IsMarked key xs marks row at = (slice_get marks at ≡ Some true) × ((x : Stored) × (slice_get xs at ≡ Some x) × IsEntryBy key row x)

-- no entry is the row's
abbrev pub HasNone : EntryKey → List Stored → (row : Stored) → Type 0
HasNone key xs row = (j : ℕ) (entry : Stored) → slice_get xs j ≡ Some entry → ¬ IsEntryBy key row entry

-- the same where it may be marked or not
abbrev pub IsOwn : EntryKey → List Stored → (row : Stored) → (at : ℕ) → Type 0
IsOwn key xs row at = (x : Stored) × (slice_get xs at ≡ Some x) × IsEntryBy key row x

-- The entries of these rows are marked: those that were found and the others are all.
pub record AreMarked (key : EntryKey) (xs rows : List Stored) (marks : List Bool) : Type 0 where
  pub many : length marks ≡ length xs
  pub picked : List Stored
  pub found : List Stored
  pub some : HaveEntries key.partial picked rows
  pub same : IsPermutation (found ++ unmarked marks xs) xs
  pub pairs : AllZip (IsEntryBy key) picked found
  pub each : (i : ℕ) (row : Stored) → slice_get rows i ≡ Some row → HasNone key xs row ⊎ ((at : ℕ) × IsMarked key xs marks row at)
  pub marked : (at : ℕ) (x : Stored) → slice_get marks at ≡ Some true → slice_get xs at ≡ Some x → (i : ℕ) × (row : Stored) × (slice_get rows i ≡ Some row) × IsEntryBy key row x

-- It is so; or this is the first fault, at a row.
abbrev pub MarkedAs : EntryKey → (xs rows : List Stored) → (marks : List Bool) → Option EntryError → Type 0
MarkedAs key xs rows marks None = AreMarked key xs rows marks
MarkedAs key xs rows marks (Some e) =
    (key.partial ≡ false) × (e.fault ≡ faults.RowWithoutEntry) × (i : ℕ) × (x : Stored) × (slice_get rows i ≡ Some x) × (x.page ≡ e.page) × (x.cell ≡ e.cell) × HasNoOwnEntry key rows xs i x

abbrev pub IsMarkedBy : EntryKey → (xs rows : List Stored) → Marks → Type 0
IsMarkedBy key xs rows marks = MarkedAs key xs rows marks.taken.items marks.fault

-- These rows were read of the tree of a root.
pub record AreOfKind (d : Database) (root : ℕ) (without_rowid : Bool) (cells : Cells) (rows : List Stored) : Type 0 where
  pub taken : AreTaken d root cells rows
  pub kind : All (λ row. is_none row.rowid ≡ without_rowid) rows

-- A fault of the rows and the entries.
abbrev pub PairRefused : EntryKey → (xs rows : List Stored) → EntryError → Type 0
PairRefused key xs rows e =
    ((key.partial ≡ false) × (e.fault ≡ faults.RowWithoutEntry) × (i : ℕ) × (x : Stored) × (slice_get rows i ≡ Some x) × (x.page ≡ e.page) × (x.cell ≡ e.cell) × HasNoOwnEntry key rows xs i x)
    ⊎ ((e.fault ≡ faults.EntryOfNoRow) × (i : ℕ) × (x : Stored) × (slice_get xs i ≡ Some x) × (x.page ≡ e.page) × (x.cell ≡ e.cell) × IsOfNoRow key rows x)

-- The entries are those of the rows of the table.
abbrev pub AreMatchedBy : Database → (table : ℕ) → EntryKey → List Stored → Type 0
AreMatchedBy d table key xs = (rows : List Stored) × HasRows d table key.without_rowid rows × MatchBy key rows xs

-- Why they aren't.
abbrev pub NotMatchedBy : Database → (table : ℕ) → EntryKey → List Stored → IndexError → Type 0
NotMatchedBy d table key xs (errors.Table e) = ReadRefused d table most_bytes (NoRowsOf d table key.without_rowid) e
NotMatchedBy d table key xs (errors.Entry e) = (rows : List Stored) × HasRows d table key.without_rowid rows × PairRefused key xs rows e
NotMatchedBy d table key xs _ = ⊥

-- What is told behind the last row.
abbrev pub EndRefusedBy : List Stored → Marks → IndexError → Type 0
EndRefusedBy xs marks (errors.Entry e) = (marks.fault ≡ Some e)
    ⊎ ((marks.fault ≡ None) × (e.fault ≡ faults.EntryOfNoRow) × (i : ℕ) × (x : Stored) × (slice_get marks.taken.items i ≡ Some false) × (slice_get xs i ≡ Some x) × (x.page ≡ e.page) × (x.cell ≡ e.cell))
EndRefusedBy xs marks _ = ⊥

abbrev pub EndsBy : List Stored → Marks → Result (Unit {0}) IndexError → Type 0
EndsBy xs marks result = MatchResult result (λ _. (marks.fault ≡ None) × All (λ mark. mark ≡ true) marks.taken.items) (EndRefusedBy xs marks)

-- what is told of a row that has no entry of its own
abbrev pub missing : (partial : Bool) → (page cell : ℕ) → Option EntryError
missing true page cell = None
missing false page cell = Some (record { fault = faults.RowWithoutEntry; page = page; cell = cell })

-- Where to look on, from and up to.
abbrev pub narrowed : Ordering → (low middle high : ℕ) → ℕ × ℕ
narrowed Less low middle high = (low, middle)
narrowed Equal low middle high = (low, high)
narrowed Greater low middle high = (middle + 1, high)
