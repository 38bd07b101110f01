use Rattle.std.proofs.Common.{◌≡◌, ◌+◌, ◌*◌, ◌≤◌, length}
use Rattle.sqpage.proofs.btree.CellsInRuns.{Running}
use Rattle.sqpage.proofs.page.BtreePage.mark_cells.Given as goal

abbrev pub invariant-cells : goal.invariant-cells
invariant-cells l = record {
  running : Running l.self l.fn.map l.map l.low l.high l.i l.taken;
  order : l.low ≤ l.high;
  within : l.high ≤ length l.self.used + 4;
  bounded : l.taken ≤ 65536 * l.i;
  same_length : length l.map ≡ length l.fn.map;
}
