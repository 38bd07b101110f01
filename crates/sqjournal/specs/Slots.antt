-- The places of records, whether a valid record stands there or not, and the nonce that the sum there follows from (own; the
-- sum of a record is that of fileformat2, 3).
use Rattle.std.specs.Prelude.{◌≡◌, ◌≢◌, ◌↔◌, ℕ, ◌+◌, ◌^◌, ◌<◌, ◌≤◌, List, length, replicate, Option, Some, None}
use Rattle.sqval.specs.Bytes.{part, word}
use Rattle.sqjournal.specs.NonceSum.{nonce_sum}
use Rattle.sqjournal.specs.declared.slots.RecordSlot.{RecordSlot}

-- a first header that SQLite has overwritten with zeros: the journal doesn't count, and its records may stand behind it
abbrev pub IsZeroed : List ℕ → Type 0
IsZeroed head = head ≡ replicate 28 0

-- the sum that stands behind the page at a place is that of the page under the nonce
abbrev pub Follows : (size : ℕ) → List ℕ → (at nonce : ℕ) → Type 0
Follows size b at nonce = word b (at + 4 + size) ≡ nonce_sum nonce (part b (at + 4) size)

-- what stands at a place, whole in the journal: the page that it names, and the one nonce that its sum follows from
pub record IsRecordSlot (size : ℕ) (b : List ℕ) (at : ℕ) (slot : RecordSlot) : Type 0 where
  pub whole : at + (size + 8) ≤ length b
  pub page : slot.page ≡ word b at
  pub nonce : (n : ℕ) → n < 2 ^ 32 → Follows size b at n ↔ (n ≡ slot.nonce)

-- the bytes are too few or too many for a record, or they are read as the record at each place where they stand
abbrev pub RecordSlotAnswer : (size : ℕ) → (bytes : List ℕ) → Option RecordSlot → Type 0
RecordSlotAnswer size bytes None = length bytes ≢ size + 8
RecordSlotAnswer size bytes (Some slot) =
    (length bytes ≡ size + 8) × ((b : List ℕ) (at : ℕ) → part b at (size + 8) ≡ bytes → IsRecordSlot size b at slot)
