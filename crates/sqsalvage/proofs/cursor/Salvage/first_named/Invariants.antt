use Rattle.std.proofs.Common.{ℕ, ◌≤◌, ◌<◌, ◌-◌}
use Rattle.sqpage.specs.Page.{cell_count}
use Rattle.sqrows.specs.Trees.{IsChild}
use Rattle.sqsalvage.specs.TreePages.{page_of}
use Rattle.sqsalvage.specs.internal.Taking.{IsUnread}
use Rattle.sqsalvage.proofs.cursor.Salvage.first_named.Given as goal

abbrev pub invariant-children : goal.invariant-children
invariant-children l = record {
  low : l.from ≤ l.at;
  high : l.at ≤ cell_count (page_of l.page);
  before : (k c : ℕ) → l.from ≤ k → k < l.at → IsChild (page_of l.page) k c → ¬ IsUnread l.self.marks.items c;
}

abbrev pub decreases-children : goal.decreases-children
decreases-children l = cell_count (page_of l.page) - l.at
