-- Words of the function that takes the entries of an index one after another (own). No public contract cites them.
use Rattle.std.specs.Prelude.{◌≡◌, ◌⊎◌, ℕ, List, slice_get, Option, Some, None, Result, MatchOption, MatchResult, ℤ, if◌then◌else◌}
use Rattle.sqval.specs.Database.{Database}
use Rattle.sqlite_record.specs.Record.{decode}
use Rattle.sqkeys.specs.declared.key.IndexKey.{IndexKey}
use Rattle.sqindex.specs.declared.error.EntryError.{EntryError}
use Rattle.sqindex.specs.declared.error.IndexError.{IndexError}
use Rattle.sqindex.specs.declared.error.IndexError.TheVariants as errors
use Rattle.sqindex.specs.declared.fault.IndexFault.{IndexFault}
use Rattle.sqindex.specs.declared.fault.IndexFault.TheVariants as faults
use Rattle.sqindex.specs.declared.fields.Ends.{Ends}
use Rattle.sqindex.specs.declared.last.Last.{Last}
use Rattle.sqindex.specs.declared.stream.Start.{Start}
use Rattle.sqindex.specs.Stored.{Stored}
use Rattle.sqindex.specs.Keys.{IsKeyed}
use Rattle.sqindex.specs.Rules.{width, HasEntries}
use Rattle.sqindex.specs.Indexes.{EntryRefused, ReadRefused, NoEntries}
use Rattle.sqindex.specs.internal.Ends.{HasEnds}
use Rattle.sqindex.specs.internal.Judging.{IsBehind, NotBehind, AreSoundEntries}

-- It has these ends, or isn't keyed by a rowid.
abbrev pub IsEnded : IndexKey → (entry : List ℕ) → (ends : Option Ends) → Type 0
IsEnded key entry ends = MatchOption ends ((r : ℤ) → ¬ IsKeyed (width key) r (decode entry)) (HasEnds (width key) (decode entry))

-- the payload that came last, where one did
abbrev pub before_of : Last → Option (List ℕ)
before_of last = if last.some then Some last.bytes.items else None

-- An entry comes behind the one before it, where there is one.
abbrev pub IsNext : IndexKey → (before : Option (List ℕ)) → (entry : List ℕ) → Type 0
IsNext key None entry = Unit {0}
IsNext key (Some before) entry = IsBehind key (decode before) (decode entry)

-- It may stand there.
pub record MayStand (key : IndexKey) (before : Option (List ℕ)) (entry : List ℕ) : Type 0 where
  pub formed : (rowid : ℤ) × IsKeyed (width key) rowid (decode entry)
  pub behind : IsNext key before entry

-- Why it may not.
abbrev pub MayNotStand : IndexKey → (before : Option (List ℕ)) → (entry : List ℕ) → IndexFault → Type 0
MayNotStand key before entry fault =
    ((fault ≡ faults.EntryForm) × ((rowid : ℤ) → ¬ IsKeyed (width key) rowid (decode entry)))
    ⊎ ((b : List ℕ) × (before ≡ Some b) × NotBehind key (decode b) (decode entry) fault)

-- The fault stands at one of these.
abbrev pub StandsAmong : IndexKey → List Stored → EntryError → Type 0
StandsAmong key xs e = (i : ℕ) × (x : Stored) × (slice_get xs i ≡ Some x) × (x.page ≡ e.page) × (x.cell ≡ e.cell) × EntryRefused key xs i x e.fault

-- Nothing is wrong with these; or this is the first fault.
abbrev pub IsStream : IndexKey → List Stored → Option EntryError → Type 0
IsStream key xs None = AreSoundEntries key xs
IsStream key xs (Some e) = StandsAmong key xs e

-- Why they aren't found to be.
abbrev pub StreamRefused : Database → (index : ℕ) → IndexKey → (limit : ℕ) → IndexError → Type 0
StreamRefused d index key limit (errors.Index e) = ReadRefused d index limit (NoEntries d index) e
StreamRefused d index key limit (errors.Entry e) = (xs : List Stored) × HasEntries d index xs × StandsAmong key xs e
StreamRefused d index key limit _ = ⊥

-- what is told behind the last entry
abbrev pub StreamEnds : Option EntryError → Start → (many : ℕ) → Result Start IndexError → Type 0
StreamEnds fault old many result = MatchResult result
    (λ new. (fault ≡ None) × (new.many ≡ many) × (new.part ≡ old.part) × (new.rows ≡ old.rows) × (new.stage ≡ old.stage) × (new.room.longest ≡ old.room.longest))
    (λ e. (f : EntryError) × (fault ≡ Some f) × (e ≡ errors.Entry f))
