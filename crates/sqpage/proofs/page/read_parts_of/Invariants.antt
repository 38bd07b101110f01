use Rattle.std.proofs.Common.{◌≡◌, length}
use Rattle.sqpage.proofs.btree.PartsOfCells.{AreRead}
use Rattle.sqpage.proofs.page.read_parts_of.Given as goal

abbrev pub invariant-cells : goal.invariant-cells
invariant-cells l = record {
  read : AreRead l.kind l.used l.number l.i l.parts;
  same_length : length l.parts ≡ length l.fn.parts;
}
