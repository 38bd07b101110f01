-- Words of the functions that read the entries of a range of rowids (own). No public contract cites them.
use Rattle.std.specs.Prelude.{◌≡◌, ◌≢◌, ℕ, List, [], ◌++◌, ◌∷◌, None, ℤ}
use Rattle.std.specs.List.{All}
use Rattle.sqval.specs.Database.{Database}
use Rattle.sqlite_record.specs.Record.{decode}
use Rattle.sqkeys.specs.declared.key.IndexKey.{IndexKey}
use Rattle.sqindex.specs.declared.error.IndexError.{IndexError}
use Rattle.sqindex.specs.declared.error.IndexError.TheVariants as errors
use Rattle.sqindex.specs.declared.error.ReadError.TheVariants.{OtherKind}
use Rattle.sqindex.specs.declared.fault.IndexFault.TheVariants as faults
use Rattle.sqindex.specs.declared.part.Part.{Part}
use Rattle.sqindex.specs.declared.walk.Found.{Found}
use Rattle.sqindex.specs.Stored.{Stored}
use Rattle.sqindex.specs.Keys.{IsKeyed}
use Rattle.sqindex.specs.Rules.{width, HasEntries}
use Rattle.sqindex.specs.Indexes.{ReadRefused, NoEntries}
use Rattle.sqindex.specs.internal.Held.{held_by, plain}
use Rattle.sqindex.specs.internal.Judging.{IsNumbered, TwiceRefused}
use Rattle.sqindex.specs.internal.Spans.{AreOfSpan, GoesOn}
use Rattle.sqindex.specs.internal.Streaming.{StandsAmong}

-- The range ends where it did or sooner, and its entries are kept.
abbrev pub Cuts : (old new : Part) → Type 0
Cuts old new = GoesOn old.span new.span × ((key : IndexKey) (seen : List Stored) → AreOfSpan key old.span old.entries seen → AreOfSpan key new.span new.entries seen)

-- Why it isn't cut: memory ran out, or two of its entries have one rowid.
abbrev pub CutRefused : (old : Part) → IndexError → Type 0
CutRefused old e = (key : IndexKey) → All (IsNumbered key old.entries) old.entries.list.items → TwiceRefused key (held_by old.entries) e

-- An entry with this rowid was added, where that is in the range.
abbrev pub TakesIn : (old : Part) → Found → (rowid : ℤ) → (bytes : List ℕ) → (new : Part) → Type 0
TakesIn old found rowid bytes new = (new.span ≡ old.span) × ((key : IndexKey) (seen : List Stored) → IsKeyed (width key) rowid (decode bytes)
    → AreOfSpan key old.span old.entries seen → AreOfSpan key new.span new.entries (seen ++ plain found bytes ∷ []))

-- An entry with this rowid was added, where that is in the range, which may end sooner.
abbrev pub Gathers : (old : Part) → Found → (rowid : ℤ) → (bytes : List ℕ) → (new : Part) → Type 0
Gathers old found rowid bytes new = GoesOn old.span new.span × ((key : IndexKey) (seen : List Stored) → IsKeyed (width key) rowid (decode bytes)
    → AreOfSpan key old.span old.entries seen → AreOfSpan key new.span new.entries (seen ++ plain found bytes ∷ []))

-- Why no entry was found: it has a rowid of its own, or hasn't the key's form.
abbrev pub IsNoEntry : IndexKey → Found → (bytes : List ℕ) → IndexError → Type 0
IsNoEntry key found bytes (errors.Index OtherKind) = found.rowid ≢ None
IsNoEntry key found bytes (errors.Entry e) = (e.fault ≡ faults.EntryForm) × (e.page ≡ found.page) × (e.cell ≡ found.cell) × ((rowid : ℤ) → ¬ IsKeyed (width key) rowid (decode bytes))
IsNoEntry key found bytes _ = ⊥

-- These are all the entries of the index that are in the range.
abbrev pub IsPart : Database → (index : ℕ) → IndexKey → Part → Type 0
IsPart d index key part = (xs : List Stored) → HasEntries d index xs → AreOfSpan key part.span part.entries xs

-- Why they aren't read.
abbrev pub PartRefused : Database → (index : ℕ) → IndexKey → (limit : ℕ) → IndexError → Type 0
PartRefused d index key limit (errors.Index e) = ReadRefused d index limit (NoEntries d index) e
PartRefused d index key limit (errors.Entry e) = (xs : List Stored) → HasEntries d index xs → StandsAmong key xs e
PartRefused d index key limit _ = ⊥
