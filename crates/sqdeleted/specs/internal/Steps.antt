-- One step of a cursor over deleted cells (own).
use Rattle.std.specs.Prelude.{◌≡◌, ℕ, ◌+◌, ◌<◌}
use Rattle.sqpage.specs.Header.{half}
use Rattle.sqpage.specs.Layout.{Span, IsFreeblock}
use Rattle.sqpage.specs.declared.cell.Parts.{Parts}
use Rattle.sqdeleted.specs.declared.cell.DeletedCell.{DeletedCell}
use Rattle.sqdeleted.specs.declared.cursor.DeletedCells.{DeletedCells}
use Rattle.sqdeleted.specs.Deleted.{StandsBetween, IsCellOf}

-- The cursor stays in its gap.
pub record Stays (old new : DeletedCells) : Type 0 where
  pub used : new.used.now ≡ old.used.now
  pub number : new.number ≡ old.number
  pub to : new.to ≡ old.to
  pub next : new.next ≡ old.next
  pub least : new.least ≡ old.least

-- The rest of the gap has no cell.
abbrev pub FindsNone : (old new : DeletedCells) → Type 0
FindsNone old new = Stays old new × ((at : ℕ) (c : Parts) → ¬ StandsBetween old.used.now old.at old.to at c)

-- This is the first cell in the rest of the gap, and the cursor is behind its first byte.
abbrev pub Finds : (old new : DeletedCells) → DeletedCell → Type 0
Finds old new cell =
    Stays old new × ((at : ℕ) × (c : Parts) × (new.at ≡ at + 1) × StandsBetween old.used.now old.at old.to at c
    × IsCellOf old.used.now old.number at c cell
    × ((other : ℕ) (d : Parts) → other < at → ¬ StandsBetween old.used.now old.at old.to other d))

-- The cursor comes to the next freeblock.
pub record Opens (old new : DeletedCells) : Type 0 where
  pub used : new.used.now ≡ old.used.now
  pub number : new.number ≡ old.number
  pub block : Span
  pub start : block.start ≡ old.next
  pub is : IsFreeblock old.used.now old.least block
  pub at : new.at ≡ block.start + 4
  pub to : new.to ≡ block.start + block.size
  pub least : new.least ≡ block.start + block.size
  pub next : new.next ≡ half old.used.now block.start

-- There is no next freeblock that is sound.
abbrev pub IsAtEnd : DeletedCells → Type 0
IsAtEnd s = (block : Span) → block.start ≡ s.next → ¬ IsFreeblock s.used.now s.least block
