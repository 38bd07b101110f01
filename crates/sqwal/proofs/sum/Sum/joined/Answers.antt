use Rattle.std.proofs.Common.{refl}
use Rattle.sqwal.proofs.checksum.SumsJoined.{goes_on_joined}
use Rattle.sqwal.proofs.sum.Sum.joined.Goals as goal

pub returns : goal.returns
returns c = λ order bytes even is alone. goes_on_joined order bytes c.args.self c.args.later _ c.args.leap even is alone (record { first = refl; second = refl })
