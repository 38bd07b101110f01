use Rattle.std.specs.Prelude.{map}
use Rattle.sqval.specs.Datum.{datum_of}
use Rattle.sqval.proofs.payload.ShortestRecord.{sum_too_large, header_too_large}
use Rattle.sqval.proofs.encoding.header_size.Goals as goal

pub returns-in_err-types-clause-none : goal.returns-in_err-types-clause-none
returns-in_err-types-clause-none c = rw c.from_residual.ensures (sum_too_large (map datum_of c.args.values.now) c.in_err-types.ensures)

pub returns-then-header-bodies-clause-none : goal.returns-then-header-bodies-clause-none
returns-then-header-bodies-clause-none c =
    let sizes = c.in_ok-types.ensures in
    header_too_large (map datum_of c.args.values.now) c.in_ok-types.types c.in_ok-types.bodies c.size_of_header_size.result sizes.0 sizes.1
    c.size_of_header_size.ensures c.if-header-bodies.true
