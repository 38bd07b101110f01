-- Words of the functions that go along the rows of a table and the entries of its index at once (own). No public contract cites them.
use Rattle.std.specs.Prelude.{◌≡◌, ℕ, false, List, [], ◌∷◌, ◌++◌, length, None, ℤ}
use Rattle.std.specs.List.{AllZip}
use Rattle.std.specs.declared.cmp.Ordering.TheVariants.{Equal}
use Rattle.sqval.specs.Database.{Database}
use Rattle.sqlite_record.specs.Record.{decode}
use Rattle.sqlite_value.specs.Keys.{entry_cmp}
use Rattle.sqkeys.specs.declared.key.IndexKey.{IndexKey}
use Rattle.sqindex.specs.declared.part.Part.{Part}
use Rattle.sqindex.specs.declared.rows.Ahead.TheVariants.{Unread}
use Rattle.sqindex.specs.declared.rows.Rows.{Rows}
use Rattle.sqindex.specs.declared.stream.Stage.{Stage}
use Rattle.sqindex.specs.declared.stream.Start.{Start}
use Rattle.sqindex.specs.declared.stream.Stage.TheVariants.{InStep, InRange, Lost}
use Rattle.sqindex.specs.declared.walk.Found.{Found}
use Rattle.sqindex.specs.Stored.{Stored}
use Rattle.sqindex.specs.Keys.{entry_for, values_of, rowid_of, IsEntryOf}
use Rattle.sqindex.specs.Rules.{width, Rise, AreFormed, HasEntries}
use Rattle.sqindex.specs.internal.Held.{held_by}
use Rattle.sqindex.specs.internal.Joining.{IsLast}
use Rattle.sqindex.specs.internal.Judging.{AreSoundEntries}
use Rattle.sqindex.specs.internal.Matching.{AreMatchedBy}
use Rattle.sqindex.specs.internal.Parts.{Gathers}
use Rattle.sqindex.specs.internal.RowsGiven.{IsCursor}
use Rattle.sqindex.specs.internal.Spans.{passed, AreOfSpan, IsOpen}

-- The entries so far are those of the rows that the cursor has given, in their order, and none is held.
pub record AreInStep (d : Database) (table : ℕ) (key : IndexKey) (part : Part) (rows : Rows) (xs : List Stored) : Type 0 where
  pub given : List Stored
  pub cursor : IsCursor d table rows given
  pub rise : Rise given
  pub ends : IsLast given part.span.above
  pub pairs : AllZip (IsEntryOf key) given xs
  pub formed : AreFormed (width key) xs
  pub none : held_by part.entries ≡ []
  pub endless : part.span.last ≡ None

-- Of the entries so far those that were passed are those of the rows that the cursor has given, and those of the range are held.
pub record AreInRange (d : Database) (table : ℕ) (key : IndexKey) (part : Part) (rows : Rows) (xs : List Stored) : Type 0 where
  pub upward : IsOpen part.span
  pub held : AreOfSpan key part.span part.entries xs
  pub matched : AreMatchedBy d table key part.span.above xs rows

abbrev pub IsStartOf : Database → (table : ℕ) → IndexKey → Stage → Part → Rows → List Stored → Type 0
IsStartOf d table key InStep part rows xs = AreInStep d table key part rows xs
IsStartOf d table key InRange part rows xs = AreInRange d table key part rows xs
IsStartOf d table key Lost part rows xs = Unit {0}

-- The index has so many entries, they are sound by themselves, and this is known of them beside the rows.
abbrev pub StartsIndex : Database → (table index : ℕ) → IndexKey → Start → Type 0
StartsIndex d table index key start =
    (xs : List Stored) × HasEntries d index xs × AreSoundEntries key xs × (length xs ≡ start.many) × IsStartOf d table key start.stage start.part start.rows xs

-- The cursor gave one more row, whose entry this is, or left it for later; or no row was read.
abbrev pub StepsOn : Database → (table : ℕ) → IndexKey → (rowid : ℤ) → (entry : List ℕ) → (given : List Stored) → (new : Rows) → Stage → Type 0
StepsOn d table key rowid entry given new InStep =
    (x : Stored) × IsCursor d table new (given ++ x ∷ []) × (new.ahead ≡ Unread) × (rowid_of x ≡ rowid)
    × (entry_cmp key.order (entry_for key.columns.items rowid (values_of x)) (decode entry) ≡ Equal)
StepsOn d table key rowid entry given new InRange = IsCursor d table new given
StepsOn d table key rowid entry given new Lost = Unit {0}

-- An entry that wasn't passed was added, where it is in the range, which may end sooner.
abbrev pub HoldsOn : (old : Part) → Found → (rowid : ℤ) → (bytes : List ℕ) → (new : Part) → Stage → Type 0
HoldsOn old found rowid bytes new InStep = ⊥
HoldsOn old found rowid bytes new InRange = (passed old.span.above rowid ≡ false) × Gathers old found rowid bytes new
HoldsOn old found rowid bytes new Lost = Unit {0}
