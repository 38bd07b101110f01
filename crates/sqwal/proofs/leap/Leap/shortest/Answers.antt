use Rattle.sqwal.proofs.checksum.FibonacciDoubled.{over_32}
use Rattle.sqwal.proofs.leap.Leap.shortest.Goals as goal

pub returns : goal.returns
returns c = over_32
