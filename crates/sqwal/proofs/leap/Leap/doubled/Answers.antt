use Rattle.std.proofs.Common.{refl}
use Rattle.sqwal.proofs.checksum.FibonacciDoubled.{doubled_is}
use Rattle.sqwal.proofs.leap.Leap.doubled.Goals as goal

pub returns : goal.returns
returns c = λ words is. doubled_is words c.args.self _ is (record { before = refl; here = refl; behind = refl })
