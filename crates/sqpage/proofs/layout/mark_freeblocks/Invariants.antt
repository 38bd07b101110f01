use Rattle.std.proofs.Common.{◌≡◌, ◌-◌, ◌*◌, ◌<◌, ◌≤◌, length}
use Rattle.sqpage.proofs.btree.LayoutOfPage.{Walked}
use Rattle.sqpage.proofs.layout.mark_freeblocks.Given as goal

abbrev pub invariant-blocks-2 : goal.invariant-blocks-2
invariant-blocks-2 l = record {
  walked : Walked l.used l.start l.first l.least l.at l.apart l.map l.taken;
  small : l.at < 65536;
  bounded : l.taken ≤ 65536 * (l.least - l.start);
  ordered : l.start ≤ l.least;
  same_length : length l.map ≡ length l.fn.map;
}

abbrev pub decreases-blocks-2 : goal.decreases-blocks-2
decreases-blocks-2 l = length l.used - l.least
