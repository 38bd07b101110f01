-- What a replay of a journal is after the bytes that came so far, and what its calls answer (own).
use Rattle.std.specs.Prelude.{◌≡◌, ℕ, ◌^◌, ◌<◌, ◌≤◌, List, [], ◌++◌, length, Result, MatchResult, Option, MatchOption}
use Rattle.sqjournal.specs.Header.{IsFirstHeader, IsRefused}
use Rattle.sqjournal.specs.Journal.{Segment, IsHot, IsJournal, IsWholeAt, entries, entry_of, sizes_of}
use Rattle.sqjournal.specs.Reading.{Stands, Waits}
use Rattle.sqjournal.specs.declared.error.JournalError.{JournalError}
use Rattle.sqjournal.specs.declared.error.JournalError.TheVariants.{NoMemory, TooLong}
use Rattle.sqjournal.specs.declared.reading.Reading.{Reading}
use Rattle.sqjournal.specs.declared.reading.Record.{Record}
use Rattle.sqjournal.specs.declared.reading.Why.{Why}
use Rattle.sqjournal.specs.declared.replay.Replay.{Replay}
use Rattle.sqjournal.specs.declared.replay.Stop.{Stop}

-- too few bytes came to judge the first header
pub record IsUnjudged (b : List ℕ) (s : Replay) : Type 0 where
  pub short : length b < 28
  pub kept : s.begun.items ≡ b
  pub none : s.records.items ≡ []

-- the first header was judged, and the replay has come as far as the reading
pub record IsJudged (b : List ℕ) (s : Replay) (r : Reading) : Type 0 where
  pub stands : Stands b r s.records.items
  pub waits : Waits b r s.begun.items

-- the replay is what it is after these bytes, in whatever pieces they came
unfoldable pub Took : List ℕ → Replay → Type 0
Took b s = (s.taken ≡ length b) × MatchOption s.reading (IsUnjudged b s) (λ r. IsJudged b s r)

-- a replay takes these bytes: they are within the limit, and they begin with a first header where they are long enough
pub record IsTakeable (b : List ℕ) : Type 0 where
  pub within : length b ≤ 2 ^ 40
  pub first : 28 ≤ length b → IsFirstHeader b

-- what refuses them. Memory refuses bytes that could be taken.
abbrev pub Refuses : List ℕ → JournalError → Type 0
Refuses b TooLong = 2 ^ 40 < length b
Refuses b NoMemory = IsTakeable b
Refuses b e = (length b ≤ 2 ^ 40) × (28 ≤ length b) × IsRefused b e

-- a piece is taken, or refused with nothing changed
abbrev pub Feeds : (piece : List ℕ) → (old new : Replay) → Result (Unit {0}) JournalError → Type 0
Feeds piece old new result = (b : List ℕ) → Took b old
    → MatchResult result (λ _. IsTakeable (b ++ piece) × Took (b ++ piece) new) (λ e. Refuses (b ++ piece) e × Took b new)

-- the journal of these bytes ends so: there is one with this end, and no other
pub record StopsSo (b : List ℕ) (stop : Stop) : Type 0 where
  pub segments : List Segment
  pub is : IsJournal b segments stop.at stop.why
  pub only : (others : List Segment) (at : ℕ) (why : Why) → IsJournal b others at why → (others ≡ segments) × (at ≡ stop.at) × (why ≡ stop.why)

-- its record number i, from 1
pub record HasEntry (b : List ℕ) (i : ℕ) (entry : Option Record) : Type 0 where
  pub segments : List Segment
  pub stop : Stop
  pub is : IsJournal b segments stop.at stop.why
  pub value : entry ≡ entry_of (entries (sizes_of b) 0 segments) i

-- it has so many records
pub record HasCount (b : List ℕ) (n : ℕ) : Type 0 where
  pub segments : List Segment
  pub stop : Stop
  pub is : IsJournal b segments stop.at stop.why
  pub value : n ≡ length (entries (sizes_of b) 0 segments)

-- a journal of these bytes has these records and ends so
pub record Says (b : List ℕ) (es : List Record) (stop : Stop) : Type 0 where
  pub segments : List Segment
  pub is : IsJournal b segments stop.at stop.why
  pub records : entries (sizes_of b) 0 segments ≡ es

-- the journal of these bytes is hot, and ends at a header or a record that is whole
pub record EndsWhole (b : List ℕ) : Type 0 where
  pub hot : IsHot b
  pub segments : List Segment
  pub stop : Stop
  pub is : IsJournal b segments stop.at stop.why
  pub whole : IsWholeAt (sizes_of b) b stop.at stop.why

-- whatever bytes follow, the journal of them all says the same
abbrev pub IsSettled : List ℕ → Type 0
IsSettled b = (more : List ℕ) (es : List Record) (stop : Stop) → Says b es stop → Says (b ++ more) es stop
