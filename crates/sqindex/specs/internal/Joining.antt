-- Words of the functions that take the rows of a table beside the entries by rowid (own). No public contract cites them.
use Rattle.std.specs.Prelude.{◌≡◌, ◌⊎◌, ◌≤◌, ◌+◌, ℕ, List, [], ◌∷◌, ◌++◌, length, slice_get, Option, Some, None, IfSome, IsSome, Result, MatchResult, ℤ, ◌<ℤ◌, ◌≤ℤ◌}
use Rattle.std.specs.List.{All}
use Rattle.sqval.specs.Database.{Database}
use Rattle.sqkeys.specs.declared.key.IndexKey.{IndexKey}
use Rattle.sqindex.specs.declared.entries.Held.{Held}
use Rattle.sqindex.specs.declared.entries.Entries.{Entries}
use Rattle.sqindex.specs.declared.join.Join.{Join}
use Rattle.sqrows.specs.declared.cells.Cells.{Cells}
use Rattle.sqindex.specs.declared.fault.IndexFault.{IndexFault}
use Rattle.sqindex.specs.declared.fault.IndexFault.TheVariants as faults
use Rattle.sqindex.specs.declared.error.EntryError.{EntryError}
use Rattle.sqindex.specs.declared.error.ReadError.{ReadError}
use Rattle.sqindex.specs.declared.error.ReadError.TheVariants.{OtherKind, RowidOrder}
use Rattle.sqindex.specs.declared.error.IndexError.{IndexError}
use Rattle.sqindex.specs.declared.error.IndexError.TheVariants as errors
use Rattle.sqindex.specs.Stored.{Stored}
use Rattle.sqindex.specs.Keys.{rowid_of, IsEntryOf}
use Rattle.sqindex.specs.Rules.{Rise}
use Rattle.sqindex.specs.Indexes.{HasNoEntry, HasNoRow}
use Rattle.sqindex.specs.internal.Held.{entry_in, held_by}
use Rattle.sqindex.specs.internal.Judging.{AreByRowid}
use Rattle.sqindex.specs.internal.Reading.{AreTaken}

-- x stands in this cell
abbrev pub IsIn : (page cell : ℕ) → Stored → Type 0
IsIn page cell x = (x.page ≡ page) × (x.cell ≡ cell)

-- What is wrong with a row beside the entry that comes next by rowid: that isn't the row's, and none before a row of its
-- rowid; or it comes before the row.
abbrev pub RowRefused : IndexKey → Entries → (at : ℕ) → (row : Stored) → IndexFault → (page cell : ℕ) → Type 0
RowRefused key entries at row faults.RowWithoutEntry page cell =
    IsIn page cell row × ((p : Held) → slice_get entries.list.items at ≡ Some p → (¬ IsEntryOf key row (entry_in entries p)) × (rowid_of row ≤ℤ p.rowid))
RowRefused key entries at row faults.EntryOfNoRow page cell =
    (p : Held) × (slice_get entries.list.items at ≡ Some p) × IsIn page cell (entry_in entries p) × (p.rowid <ℤ rowid_of row)
RowRefused key entries at row _ page cell = ⊥

-- The entry that comes next is the row's, or that is wrong.
abbrev pub JudgesRow : IndexKey → Entries → (at : ℕ) → (row : Stored) → Option EntryError → Type 0
JudgesRow key entries at row None = (p : Held) × (slice_get entries.list.items at ≡ Some p) × IsEntryOf key row (entry_in entries p)
JudgesRow key entries at row (Some e) = RowRefused key entries at row e.fault e.page e.cell

-- The entries by rowid are those of these rows, as far as both go.
abbrev pub PairUp : IndexKey → Entries → (rows : List Stored) → Type 0
PairUp key entries rows = (j : ℕ) (row : Stored) (p : Held) → slice_get rows j ≡ Some row → slice_get entries.list.items j ≡ Some p → IsEntryOf key row (entry_in entries p)

-- the last of these rows has a rowid above this one
abbrev pub IsPassed : (rows : List Stored) → (rowid : ℤ) → Type 0
IsPassed rows rowid = (h : ℕ) × (a : Stored) × (length rows ≡ h + 1) × (slice_get rows h ≡ Some a) × (rowid <ℤ rowid_of a)

-- A fault of these rows, whatever rows come behind.
abbrev pub RowsRefused : IndexKey → Entries → (rows : List Stored) → IndexFault → (page cell : ℕ) → Type 0
RowsRefused key entries rows faults.RowWithoutEntry page cell = (i : ℕ) × (x : Stored) × (slice_get rows i ≡ Some x) × IsIn page cell x × HasNoEntry key (held_by entries) x
RowsRefused key entries rows faults.EntryOfNoRow page cell =
    (at : ℕ) × (p : Held) × (slice_get entries.list.items at ≡ Some p) × IsIn page cell (entry_in entries p) × HasNoRow key rows (entry_in entries p) × IsPassed rows p.rowid
RowsRefused key entries rows _ page cell = ⊥

-- Each of these rows has its entry among the first ones by rowid, or the first fault was found.
abbrev pub JoinedAs : IndexKey → Entries → (rows : List Stored) → (at : ℕ) → Option EntryError → Type 0
JoinedAs key entries rows at None = (length rows ≡ at) × (at ≤ length entries.list.items) × PairUp key entries rows
JoinedAs key entries rows at (Some e) = RowsRefused key entries rows e.fault e.page e.cell

abbrev pub IsJoined : IndexKey → Entries → (rows : List Stored) → Join → Type 0
IsJoined key entries rows join = JoinedAs key entries rows join.at join.fault

-- It was so before a row, and is so with it.
abbrev pub Sees : IndexKey → Entries → (rows : List Stored) → (old : Join) → (row : Stored) → (new : Join) → Type 0
Sees key entries rows old row new = AreByRowid key entries → Rise (rows ++ row ∷ []) → IsJoined key entries rows old → IsJoined key entries (rows ++ row ∷ []) new

-- What is told behind the last row.
abbrev pub EndRefused : Entries → Join → IndexError → Type 0
EndRefused entries join (errors.Entry e) = (join.fault ≡ Some e)
    ⊎ ((join.fault ≡ None) × (e.fault ≡ faults.EntryOfNoRow) × (p : Held) × (slice_get entries.list.items join.at ≡ Some p) × IsIn e.page e.cell (entry_in entries p))
EndRefused entries join _ = ⊥

abbrev pub EndTells : Entries → Join → Result (Unit {0}) IndexError → Type 0
EndTells entries join result = MatchResult result (λ _. (join.fault ≡ None) × (length entries.list.items ≤ join.at)) (EndRefused entries join)

-- The rowid is this one, above that of the row before.
abbrev pub IsAbove : (last rowid : Option ℤ) → Option ℤ → Type 0
IsAbove last rowid now = (r : ℤ) × (now ≡ rowid) × (rowid ≡ Some r) × IfSome last (λ l. l <ℤ r)

abbrev pub NotAbove : (last rowid : Option ℤ) → ReadError → Type 0
NotAbove last rowid OtherKind = rowid ≡ None
NotAbove last rowid RowidOrder = (l r : ℤ) × (last ≡ Some l) × (rowid ≡ Some r) × (r ≤ℤ l)
NotAbove last rowid _ = ⊥

-- the last of these rows has this rowid
abbrev pub IsLast : (rows : List Stored) → Option ℤ → Type 0
IsLast rows None = rows ≡ []
IsLast rows (Some r) = (h : ℕ) × (a : Stored) × (length rows ≡ h + 1) × (slice_get rows h ≡ Some a) × (rowid_of a ≡ r)

-- The rows that were read, beside the entries.
pub record AreSeen (d : Database) (table : ℕ) (cells : Cells) (last : Option ℤ) (rows : List Stored) : Type 0 where
  pub taken : AreTaken d table cells rows
  pub keyed : All (λ row. IsSome row.rowid) rows
  pub rise : Rise rows
  pub ends : IsLast rows last

-- A fault of the rows and the entries.
abbrev pub BothRefused : IndexKey → List Stored → (rows : List Stored) → IndexFault → (page cell : ℕ) → Type 0
BothRefused key xs rows faults.RowWithoutEntry page cell = (i : ℕ) × (x : Stored) × (slice_get rows i ≡ Some x) × IsIn page cell x × HasNoEntry key xs x
BothRefused key xs rows faults.EntryOfNoRow page cell = (i : ℕ) × (x : Stored) × (slice_get xs i ≡ Some x) × IsIn page cell x × HasNoRow key rows x
BothRefused key xs rows _ page cell = ⊥
