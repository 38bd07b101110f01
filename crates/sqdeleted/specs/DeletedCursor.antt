-- What a cursor over deleted cells still gives (own).
use Rattle.std.specs.Prelude.{◌↔◌, ◌⊎◌, ℕ, ◌+◌, ◌≤◌, List, [], ◌∷◌, Option, Some, None}
use Rattle.sqpage.specs.Lists.{In}
use Rattle.sqpage.specs.Layout.{Span}
use Rattle.sqpage.specs.declared.cell.Parts.{Parts}
use Rattle.sqdeleted.specs.declared.cell.DeletedCell.{DeletedCell}
use Rattle.sqdeleted.specs.declared.cursor.DeletedCells.{DeletedCells}
use Rattle.sqdeleted.specs.Deleted.{StandsBetween, IsLinked, IsCellOf}

-- A deleted cell of these parts is left at this place: in the gap that the cursor is in, or in a freeblock behind it.
abbrev pub IsLeft : DeletedCells → (at : ℕ) → Parts → Type 0
IsLeft s at c =
    StandsBetween s.used.now s.at s.to at c
    ⊎ ((block : Span) × IsLinked s.used.now s.least s.next block × StandsBetween s.used.now (block.start + 4) (block.start + block.size) at c)

-- Each of these is at least `from`, and above the one before it.
abbrev pub Rise : (from : ℕ) → List ℕ → Type 0
Rise from [] = Unit {0}
Rise from (x ∷ xs) = (from ≤ x) × Rise (x + 1) xs

-- These are the places of all cells that are left, each once, in their order.
abbrev pub AreLeft : DeletedCells → List ℕ → Type 0
AreLeft s places = Rise 0 places × ((at : ℕ) → In at places ↔ ((c : Parts) × IsLeft s at c))

-- Cells that are left now were left behind the one that was found; or none was left.
abbrev pub CellsMove : (old new : DeletedCells) → Option DeletedCell → Type 0
CellsMove old new None = AreLeft old []
CellsMove old new (Some cell) =
    (at : ℕ) × (c : Parts) × IsLeft old at c × IsCellOf old.used.now old.number at c cell
    × ((places : List ℕ) → AreLeft new places → AreLeft old (at ∷ places))
