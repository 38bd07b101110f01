use Rattle.std.proofs.Common.{ℕ, ◌-◌, ◌<◌, ◌≤◌}
use Rattle.sqpage.specs.declared.cell.Parts.{Parts}
use Rattle.sqdeleted.specs.Deleted.{StandsBetween}
use Rattle.sqdeleted.specs.internal.Steps.{Stays}
use Rattle.sqdeleted.proofs.cursor.DeletedCells.next_in_gap.Given as goal

abbrev pub invariant-places : goal.invariant-places
invariant-places l = record {
  stays : Stays l.fn.self l.self;
  behind : l.fn.self.at ≤ l.self.at;
  passed : (p : ℕ) (c : Parts) → p < l.self.at → ¬ StandsBetween l.fn.self.used.now l.fn.self.at l.fn.self.to p c;
}

abbrev pub decreases-places : goal.decreases-places
decreases-places l = l.self.to - l.self.at
