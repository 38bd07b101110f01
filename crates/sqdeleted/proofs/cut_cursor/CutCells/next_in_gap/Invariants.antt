use Rattle.std.proofs.Common.{ℕ, ◌-◌, ◌<◌, ◌≤◌}
use Rattle.sqdeleted.specs.Cut.{IsCut}
use Rattle.sqdeleted.specs.declared.rest.Rest.{Rest}
use Rattle.sqdeleted.specs.internal.Rests.{StaysCut}
use Rattle.sqdeleted.proofs.cut_cursor.CutCells.next_in_gap.Given as goal

abbrev pub invariant-places : goal.invariant-places
invariant-places l = record {
  stays : StaysCut l.fn.self l.self;
  behind : l.fn.self.at ≤ l.self.at;
  passed : (p : ℕ) (r : Rest) → p < l.self.at → ¬ IsCut l.fn.self.used.now l.fn.self.whole.now l.fn.self.at l.fn.self.to p r;
}

abbrev pub decreases-places : goal.decreases-places
decreases-places l = l.self.to - l.self.at
