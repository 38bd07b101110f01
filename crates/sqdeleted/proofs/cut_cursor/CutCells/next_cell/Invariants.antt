use Rattle.std.proofs.Common.{◌≡◌, ◌-◌, List, length}
use Rattle.sqdeleted.specs.CutCursor.{AreCutLeft}
use Rattle.sqdeleted.specs.declared.cut.CutCell.{CutCell}
use Rattle.sqdeleted.proofs.cut_cursor.CutCells.next_cell.Given as goal

abbrev pub invariant-gaps : goal.invariant-gaps
invariant-gaps l = record {
  used : l.self.used.now ≡ l.fn.self.used.now;
  whole : l.self.whole.now ≡ l.fn.self.whole.now;
  number : l.self.number ≡ l.fn.self.number;
  left : (cells : List CutCell) → AreCutLeft l.self cells → AreCutLeft l.fn.self cells;
}

abbrev pub decreases-gaps : goal.decreases-gaps
decreases-gaps l = length l.self.used.now - l.self.least
