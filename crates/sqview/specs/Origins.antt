-- Where the pages of a view come from: by frames of a write-ahead log, the last one that names the page (fileformat2, 4.4).
use Rattle.std.specs.Prelude.{◌≡◌, ◌≢◌, ◌⊎◌, ℕ, ◌+◌, ◌<◌, ◌≤◌, List, length, slice_get, Some}
use Rattle.sqwal.specs.Frames.{frame_at}
use Rattle.sqwal.specs.View.{Unnamed, IsLast}
use Rattle.sqjournal.specs.Took.{Says}
use Rattle.sqjournal.specs.declared.reading.Record.{Record}
use Rattle.sqjournal.specs.declared.replay.Stop.{Stop}
use Rattle.sqview.specs.Laid.{place_of}
use Rattle.sqview.specs.declared.view.origin.Origin.{Origin}
use Rattle.sqview.specs.declared.view.origin.Origin.TheVariants as origins

-- where page p's bytes begin in the log, 0 where none of the frames 1 to m names it
abbrev pub IsFramePlace : (size : ℕ) → List ℕ → (m p at : ℕ) → Type 0
IsFramePlace size w m p at = ((at ≡ 0) × Unnamed size w m p) ⊎ ((i : ℕ) × IsLast size w m p i × (at ≡ frame_at size i + 24))

pub record AreFramePlaces (size : ℕ) (w : List ℕ) (m count : ℕ) (places : List ℕ) : Type 0 where
  pub long : length places ≡ count
  pub each : (p : ℕ) → 1 ≤ p → p ≤ count → IsFramePlace size w m p (place_of places p)

-- Page p comes from the last of the frames 1 to m that names it, and from the file where none does.
abbrev pub IsFrameOrigin : (size : ℕ) → List ℕ → (m p : ℕ) → Origin → Type 0
IsFrameOrigin size w m p origins.File = Unnamed size w m p
IsFrameOrigin size w m p (origins.Frame i) = IsLast size w m p i
IsFrameOrigin size w m p (origins.Record at) = ⊥

-- Where page p begins in a journal with these records: in the last one that names it, 0 where none does (fileformat2, 3).
abbrev pub IsRecordPlace : (records : List Record) → (p at : ℕ) → Type 0
IsRecordPlace records p at =
    ((at ≡ 0) × ((i : ℕ) (r : Record) → slice_get records i ≡ Some r → r.page ≢ p))
    ⊎ ((i : ℕ) × (r : Record) × (slice_get records i ≡ Some r) × (r.page ≡ p) × (at ≡ r.at)
    × ((k : ℕ) (s : Record) → i < k → slice_get records k ≡ Some s → s.page ≢ p))

-- those of the pages up to the count in a hot journal
pub record AreJournalPlaces (journal : List ℕ) (count : ℕ) (places : List ℕ) : Type 0 where
  pub long : length places ≡ count
  pub each : (records : List Record) (stop : Stop) → Says journal records stop → (p : ℕ) → 1 ≤ p → p ≤ count → IsRecordPlace records p (place_of places p)

-- where a page of a hot journal's view begins: in the journal where a record names it
abbrev pub IsRecordOrigin : (at : ℕ) → Origin → Type 0
IsRecordOrigin at origins.File = at ≡ 0
IsRecordOrigin at (origins.Frame i) = ⊥
IsRecordOrigin at (origins.Record begins) = (0 < at) × (begins ≡ at)
