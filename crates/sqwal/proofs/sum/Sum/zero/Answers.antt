use Rattle.std.proofs.Common.{refl}
use Rattle.sqwal.proofs.checksum.Sums.{sum_none}
use Rattle.sqwal.proofs.sum.Sum.zero.Goals as goal

pub returns : goal.returns
returns c = λ order. sum_none order _ refl refl
