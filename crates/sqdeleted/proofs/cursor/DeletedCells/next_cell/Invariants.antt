use Rattle.std.proofs.Common.{◌≡◌, ◌↔◌, ℕ, ◌-◌, length}
use Rattle.sqpage.specs.declared.cell.Parts.{Parts}
use Rattle.sqdeleted.specs.DeletedCursor.{IsLeft}
use Rattle.sqdeleted.proofs.cursor.DeletedCells.next_cell.Given as goal

abbrev pub invariant-gaps : goal.invariant-gaps
invariant-gaps l = record {
  used : l.self.used.now ≡ l.fn.self.used.now;
  number : l.self.number ≡ l.fn.self.number;
  left : (p : ℕ) (c : Parts) → IsLeft l.fn.self p c ↔ IsLeft l.self p c;
}

abbrev pub decreases-gaps : goal.decreases-gaps
decreases-gaps l = length l.self.used.now - l.self.least
