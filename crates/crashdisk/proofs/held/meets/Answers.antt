use Rattle.crashdisk.proofs.Below.{arith, meets_range, nat_tests, range_meets}
use Rattle.crashdisk.proofs.held.meets.Goals as goal

pub returns-then-from-k : goal.returns-then-from-k
returns-then-from-k c = (
  λ yes. range_meets c.args.sector c.args.from c.args.to c.args.k c.requires.positive (grind (arith, nat_tests)) (grind (arith, nat_tests)) (grind (arith, nat_tests)),
  λ meets. let range = meets_range c.args.sector c.args.from c.args.to c.args.k c.requires.positive meets in grind (arith, nat_tests, range.2),
)
