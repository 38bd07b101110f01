use Rattle.sqcheck.proofs.Between.{Rising}
use Rattle.sqcheck.proofs.node.keys_rise.Given as goal

abbrev pub invariant-cells : goal.invariant-cells
invariant-cells l = Rising l.page l.fn.low l.high l.i l.before
