-- Whether an index names a front of a log, in numbers (own).
use Rattle.std.specs.Prelude.{◌≡◌, ◌⊎◌, ℕ, ◌≤◌, List, length, take}
use Rattle.sqval.specs.Bytes.{part}
use Rattle.sqwal.specs.Frames.{frame_at}
use Rattle.sqlocks.specs.Index.{IsIndexOf, IsFrontOf}
use Rattle.sqlocks.specs.declared.index.IndexHead.{IndexHead}

-- where the last frame that counts begins, 0 where none does
pub record IsPlace (head : IndexHead) (place : ℕ) : Type 0 where
  pub none : head.frames ≡ 0 → place ≡ 0
  pub some : 1 ≤ head.frames → place ≡ frame_at head.page_size head.frames

-- no frame counts, or the last one that does is in a log with this header that has these bytes in its place
abbrev pub Counts : IndexHead → (header frame : List ℕ) → Type 0
Counts head header frame = (head.frames ≡ 0) ⊎ ((w : List ℕ) → part w 0 32 ≡ take 32 header
    → part w (frame_at head.page_size head.frames) 24 ≡ take 24 frame → IsFrontOf head w)

-- the index has a valid header, whose frames count
abbrev pub NamesFront : (index header frame : List ℕ) → Type 0
NamesFront index header frame = (head : IndexHead) × (136 ≤ length index) × IsIndexOf (take 136 index) head × Counts head header frame

-- the place that a valid header names; 0 where there is none
abbrev pub PlaceOf : (index : List ℕ) → ℕ → Type 0
PlaceOf index place = (place ≡ 0) ⊎ ((head : IndexHead) × IsIndexOf (take 136 index) head × IsPlace head place)
