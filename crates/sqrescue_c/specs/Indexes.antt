-- How much of a write-ahead log counts by its index (walformat, 2.1).
use Rattle.std.specs.Prelude.{◌≡◌, ◌⊎◌, ℕ, suc, ◌≤◌, List, length, take}
use Rattle.sqwal.specs.Frames.{frame_at}
use Rattle.sqlocks.specs.Index.{IsIndex, IsIndexOf}
use Rattle.sqlocks.specs.declared.index.IndexHead.{IndexHead}

-- the place behind the last frame that counts; 0 where none does
pub record IsEnd (head : IndexHead) (end : ℕ) : Type 0 where
  pub none : head.frames ≡ 0 → end ≡ 0
  pub some : 1 ≤ head.frames → end ≡ frame_at head.page_size (suc head.frames)

-- that of a valid header; 0 where there is none
abbrev pub EndOf : (index : List ℕ) → ℕ → Type 0
EndOf index end = ((end ≡ 0) × (136 ≤ length index → ¬ IsIndex (take 136 index)))
    ⊎ ((head : IndexHead) × (136 ≤ length index) × IsIndexOf (take 136 index) head × IsEnd head end)
