use Rattle.std.proofs.Common.{◌≡◌, ◌≤◌}
use Rattle.sqsalvage.specs.TreePages.{page_of}
use Rattle.sqsalvage.proofs.NamedPieces.{Names}
use Rattle.sqsalvage.proofs.cursor.Salvage.name_from.Given as goal

abbrev pub invariant-children : goal.invariant-children
invariant-children l = record {
  size : l.self.size ≡ l.fn.self.size;
  usable : l.self.usable ≡ l.fn.self.usable;
  at : l.self.at ≡ l.fn.self.at;
  table : l.self.table ≡ l.fn.self.table;
  marks : l.self.marks ≡ l.fn.self.marks;
  low : l.first ≤ l.i;
  names : Names (page_of l.page) l.fn.self.marks.items l.from l.i l.last l.fn.self.pending.items l.self.pending.items;
}

abbrev pub decreases-children : goal.decreases-children
decreases-children l = l.i
