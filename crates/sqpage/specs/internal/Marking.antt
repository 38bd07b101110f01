-- Words of the helper functions that mark the bytes of a page (own). No public contract cites them.
use Rattle.std.specs.Prelude.{◌≡◌, ℕ, ◌+◌, ◌-◌, ◌/◌, ◌%◌, ◌<◌, ◌≤◌, ◌⊎◌, List, ◌++◌, length, true, false, get_or, min, sum_by}
use Rattle.std.specs.Int.{bit_at}
use Rattle.sqpage.specs.declared.fault.Fault.{Fault}
use Rattle.sqpage.specs.declared.fault.Fault.TheVariants as faults
use Rattle.sqpage.specs.Page.{Page, cell_count}
use Rattle.sqpage.specs.Layout.{Span, covers, times_covered, ShareNone, AreFreeblocks, AreCellSpans, HasFreeblocks, PointersEndBefore}

-- 1 where the byte at a place is marked, and otherwise 0: by a bit, 64 of them in a word
unfoldable pub mark_at : List ℕ → (place : ℕ) → ℕ
mark_at map place = bit_at (get_or map (place / 64) 0) (place % 64)

-- The bits of a word from one up to another weren't set and are set now, and the others are as before.
pub record SetsBits (old new low high : ℕ) : Type 0 where
  pub free : (i : ℕ) → low ≤ i → i < high → bit_at old i ≡ 0
  pub is_set : (i : ℕ) → low ≤ i → i < high → bit_at new i ≡ 1
  pub kept : (i : ℕ) → (i < low) ⊎ (high ≤ i) → bit_at new i ≡ bit_at old i

-- a bit of a word from one up to another is set
abbrev pub HasBit : (word low high : ℕ) → Type 0
HasBit word low high = (i : ℕ) × (low ≤ i) × (i < high) × (bit_at word i ≡ 1)

-- The bytes of a span weren't marked and are marked now, and the others are as before.
pub record MarksSpan (old new : List ℕ) (s : Span) : Type 0 where
  pub free : (place : ℕ) → covers s place ≡ true → mark_at old place ≡ 0
  pub marked : (place : ℕ) → covers s place ≡ true → mark_at new place ≡ 1
  pub kept : (place : ℕ) → covers s place ≡ false → mark_at new place ≡ mark_at old place

-- a byte of a span is marked
pub record IsTouched (map : List ℕ) (s : Span) : Type 0 where
  pub place : ℕ
  pub in_it : covers s place ≡ true
  pub marked : mark_at map place ≡ 1

-- the marked bytes are those of the spans, which share none
abbrev pub AreMarks : List ℕ → List Span → Type 0
AreMarks map spans = (place : ℕ) → times_covered spans place ≡ mark_at map place

-- how many bytes of the spans stand before a place
abbrev pub bytes_before : (end : ℕ) → Span → ℕ
bytes_before end s = min (s.start + s.size) end - s.start

abbrev pub taken_before : (end : ℕ) → List Span → ℕ
taken_before end spans = sum_by (bytes_before end) spans

-- The freeblocks are marked, share no byte, and take so many.
pub record MarksFreeblocks (used : List ℕ) (least at : ℕ) (map : List ℕ) (taken : ℕ) : Type 0 where
  pub blocks : List Span
  pub are : AreFreeblocks used least at blocks
  pub marked : AreMarks map blocks
  pub taken_are : taken ≡ taken_before (length used) blocks

-- One stands where none can, or two of them share a byte.
abbrev pub FreeblocksRefused : List ℕ → (least at : ℕ) → Fault → Type 0
FreeblocksRefused used least at faults.Freeblock = (blocks : List Span) → ¬ AreFreeblocks used least at blocks
FreeblocksRefused used least at faults.Overlap = (blocks : List Span) × AreFreeblocks used least at blocks × ¬ ShareNone blocks
FreeblocksRefused used least at _ = ⊥

-- All cells are marked beside what was, and take so many bytes of the usable part.
pub record MarksCells (p : Page) (old new : List ℕ) (taken : ℕ) : Type 0 where
  pub cells : List Span
  pub are : AreCellSpans p 0 cells
  pub all : length cells ≡ cell_count p
  pub marked : (spans : List Span) → AreMarks old spans → AreMarks new (spans ++ cells)
  pub taken_are : taken ≡ taken_before (length p.used) cells

-- A cell shares a byte with one before it or with what was marked.
pub record TouchesCells (p : Page) (old : List ℕ) : Type 0 where
  pub cells : List Span
  pub are : AreCellSpans p 0 cells
  pub shared : (spans : List Span) → AreMarks old spans → ¬ ShareNone (spans ++ cells)

-- The cells share no byte, and take so many bytes of the usable part.
pub record LieApart (p : Page) (taken : ℕ) : Type 0 where
  pub cells : List Span
  pub are : AreCellSpans p 0 cells
  pub all : length cells ≡ cell_count p
  pub apart : ShareNone cells
  pub taken_are : taken ≡ taken_before (length p.used) cells

-- All freeblocks and cells share no byte, and take so many bytes of the usable part.
pub record TakesBytes (p : Page) (taken : ℕ) : Type 0 where
  pub blocks : List Span
  pub cells : List Span
  pub freeblocks : HasFreeblocks p blocks
  pub cells_are : AreCellSpans p 0 cells
  pub all : length cells ≡ cell_count p
  pub pointers : PointersEndBefore p
  pub apart : ShareNone (blocks ++ cells)
  pub taken_are : taken ≡ taken_before (length p.used) (blocks ++ cells)
