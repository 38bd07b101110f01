-- The records behind the last segment of a journal, or behind a first header that was overwritten with zeros.
use Rattle.std.specs.Prelude.{◌≡◌, ◌↔◌, ℕ, ◌+◌, ◌-◌, ◌^◌, ◌<◌, ◌≤◌, List, length, Option, MatchOption}
use Rattle.sqval.specs.Bytes.{word}
use Rattle.sqjournal.specs.Journal.{Segment, IsJournal}
use Rattle.sqjournal.specs.Slots.{Follows, IsRecordSlot}
use Rattle.sqjournal.specs.declared.reading.Why.{Why}
use Rattle.sqjournal.specs.declared.slots.RecordSlot.{RecordSlot}
use Rattle.cli_show.specs.Behind.{EndsSegments, slot_place}

-- record i of so many, from 0, none behind the last one
abbrev pub IsRecordOf : (size : ℕ) → (journal : List ℕ) → (count i : ℕ) → Option RecordSlot → Type 0
IsRecordOf size b count i slot = MatchOption slot (count ≤ i) (λ s. (i < count) × IsRecordSlot size b (slot_place 512 (size + 8) i) s)

-- the one nonce from which the sum of the record before record i follows, none before the first one
abbrev pub IsNonceBefore : (size : ℕ) → (journal : List ℕ) → (i : ℕ) → Option ℕ → Type 0
IsNonceBefore size b i nonce = MatchOption nonce (i ≡ 0) (λ m. (0 < i)
    × ((n : ℕ) → n < 2 ^ 32 → Follows size b (slot_place 512 (size + 8) (i - 1)) n ↔ (n ≡ m)))

-- a last record stands at a place, whole, and its sum follows from the nonce of the last segment, which ends behind it
pub record IsLastRecord (b : List ℕ) (place : ℕ) : Type 0 where
  pub nonce : ℕ
  pub ends : EndsSegments b (place + (word b 24 + 8)) nonce
  pub fits : place + (word b 24 + 8) < 2 ^ 64
  pub whole : place + (word b 24 + 8) ≤ length b
  pub follows : Follows (word b 24) b place nonce
  pub from : ℕ
  pub named : nonce ≡ word b from

-- the last segment has no record, and ends here behind its header
pub record EndsBare (b : List ℕ) (at : ℕ) : Type 0 where
  pub sector : word b 20 ≤ at
  pub least : 512 ≤ word b 20
  pub whole : at ≤ length b
  pub ends : EndsSegments b at (word b (at - word b 20 + 12))

-- the place of the last record if that is one of the last segment, none if this has no record
abbrev pub IsLastPlace : (b : List ℕ) → Option ℕ → Type 0
IsLastPlace b place = MatchOption place ((segments : List Segment) (at : ℕ) (why : Why) → IsJournal b segments at why → EndsBare b at) (IsLastRecord b)
