use Rattle.std.proofs.Common.{arith}
use Rattle.std.specs.Prelude.{map}
use Rattle.sqval.specs.Datum.{datum_of}
use Rattle.sqval.proofs.payload.ShortestRecord.{shortest}
use Rattle.sqval.proofs.encoding.encode.Goals as goal

pub returns-in-Ok-clause-appended : goal.returns-in-Ok-clause-appended
returns-in-Ok-clause-appended c =
    let size = c.in-Some.ensures.some in
    let made = c.in-Ok.ensures.appended in
    (made.0, shortest (map datum_of c.args.values.now) c.in-Some.header size.0 made.0 size.1 size.2 made.1 made.2, omega (arith, size.3, made.2), made.3)
