-- What a cursor over cells that lost their first four bytes still gives (own).
use Rattle.std.specs.Prelude.{List, [], ◌∷◌, Option, Some, None}
use Rattle.sqdeleted.specs.Cut.{AreCutFrom}
use Rattle.sqdeleted.specs.declared.cut.CutCell.{CutCell}
use Rattle.sqdeleted.specs.declared.cut_cursor.CutCells.{CutCells}

-- These are the cells that are left, in the gap that the cursor is in and in the freeblocks behind it.
abbrev pub AreCutLeft : CutCells → List CutCell → Type 0
AreCutLeft s cells = AreCutFrom s.used.now s.whole.now s.number s.at s.to s.least s.next cells

-- Those that are left now were left behind the one that was found; or none was left.
abbrev pub CutsMove : (old new : CutCells) → Option CutCell → Type 0
CutsMove old new None = AreCutLeft old []
CutsMove old new (Some cell) = (cells : List CutCell) → AreCutLeft new cells → AreCutLeft old (cell ∷ cells)
