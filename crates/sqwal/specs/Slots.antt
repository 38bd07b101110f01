-- The whole frame slots of a log, valid or not, and whether the sums that stand in one follow from those in the slot
-- before it (own; the sums are those of fileformat2, 4.2).
use Rattle.std.specs.Prelude.{◌≡◌, ◌≢◌, ◌↔◌, IsTrue, ℕ, zero, suc, ◌+◌, ◌-◌, ◌≤◌, List, ◌++◌, length, Option, Some, None}
use Rattle.sqval.specs.Bytes.{part, word}
use Rattle.sqwal.specs.Sums.{GoesOn}
use Rattle.sqwal.specs.Header.{order_of, IsHeaderOf}
use Rattle.sqwal.specs.Frames.{frame_at, frame_end, page_of, size_of, content_of}
use Rattle.sqwal.specs.declared.header.WalHeader.{WalHeader}
use Rattle.sqwal.specs.declared.sum.Sum.{Sum}
use Rattle.sqwal.specs.declared.slots.Slot.{Slot}

-- the sums that stand in slot i, and for i = 0 the header's
abbrev pub stored : (size : ℕ) → List ℕ → (i : ℕ) → Sum
stored size w zero = record { s0 = word w 24; s1 = word w 28 }
stored size w (suc i) = record { s0 = word w (frame_at size (suc i) + 16); s1 = word w (frame_at size (suc i) + 20) }

-- The sums in slot i go on from those in the slot before it over its first 8 bytes and its page. They are no other
-- sums: whatever two numbers of 32 bits stand in the slot before, there are 8 bytes whose sums they are.
abbrev pub Follows : (size : ℕ) → List ℕ → (i : ℕ) → Type 0
Follows size w i = GoesOn (order_of w) (part w (frame_at size i) 8 ++ content_of size w i) (stored size w (i - 1)) (stored size w i)

-- slot i is whole, and what stands in it
pub record IsSlot (size : ℕ) (w : List ℕ) (i : ℕ) (slot : Slot) : Type 0 where
  pub whole : frame_end size i ≤ length w
  pub page : slot.page ≡ page_of size w i
  pub pages : slot.size ≡ size_of size w i
  pub salt1 : slot.salt1 ≡ word w (frame_at size i + 8)
  pub salt2 : slot.salt2 ≡ word w (frame_at size i + 12)
  pub sum : slot.sum ≡ stored size w i
  pub follows : IsTrue slot.follows ↔ Follows size w i

-- the frame is too short or too long for a slot, or it is read as slot i wherever it stands there behind these sums
abbrev pub SlotAnswer : WalHeader → (before : Sum) → (frame : List ℕ) → Option Slot → Type 0
SlotAnswer h before frame None = length frame ≢ 24 + h.page_size
SlotAnswer h before frame (Some slot) = (length frame ≡ 24 + h.page_size)
    × ((w : List ℕ) (i : ℕ) → IsHeaderOf w h → 1 ≤ i → part w (frame_at h.page_size i) (24 + h.page_size) ≡ frame
    → stored h.page_size w (i - 1) ≡ before → IsSlot h.page_size w i slot)
