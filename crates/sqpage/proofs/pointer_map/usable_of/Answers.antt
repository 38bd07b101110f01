use Rattle.std.proofs.Common.{arith}
use Rattle.sqpage.proofs.file.PointerMapGroups.{least_size}
use Rattle.sqpage.proofs.pointer_map.usable_of.Goals as goal

pub overflow_sub-result : goal.overflow_sub-result
overflow_sub-result c = omega (arith, c.from.ensures, c.ranges.reserved, least_size c.get.result c.get.ensures.valid)

pub returns-clause-some : goal.returns-clause-some
returns-clause-some c = omega (arith, c.from.ensures, c.ranges.reserved, least_size c.get.result c.get.ensures.valid)
