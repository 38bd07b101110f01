use Rattle.std.proofs.Common.{arith}
use Rattle.sqval.proofs.payload.ShortestRecord.{varint_written}
use Rattle.sqval.proofs.encoding.push_varint.Goals as goal

pub returns-clause-appended : goal.returns-clause-appended
returns-clause-appended c =
    varint_written c.extend_from_slice.result c.args.out.now.items c.extend_from_slice.new.self.items c.write-size.new.out c.args.number c.write-size.result
    c.ranges.number.fits (omega arith) c.write-size.ensures.spells c.write-size.ensures.shortest (let e = c.extend_from_slice.ensures.items in grind (arith, e))
