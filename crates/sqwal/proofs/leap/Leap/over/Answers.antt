use Rattle.std.proofs.Common.{◌≤◌, arith}
use Rattle.sqwal.proofs.checksum.FibonacciDoubled.{reached_first, reached_twice}
use Rattle.sqwal.proofs.leap.Leap.over.Goals as goal

pub loop-reached-init : goal.loop-reached-init
loop-reached-init c = reached_first c.args.words c.shortest-leap.result c.shortest-leap.ensures

pub loop-reached-preserved : goal.loop-reached-preserved
loop-reached-preserved c = reached_twice c.args.words c.loop-reached.reached c.loop-reached.leap c.doubled-leap.result c.loop-reached-test.true c.doubled-leap.ensures c.loop-reached.invariant

pub returns-else-reached-words : goal.returns-else-reached-words
returns-else-reached-words c = λ k is.
    let most : c.loop-reached.reached ≤ c.args.words = c.loop-reached.invariant.within k is in
    absurd (omega arith)
