use Rattle.sqval.proofs.payload.ShortestRecord.{summed_none, summed_next, too_many, one_too_long}
use Rattle.sqval.proofs.encoding.sizes.Goals as goal

pub loop-value-init : goal.loop-value-init
loop-value-init c = summed_none

pub loop-value-preserved : goal.loop-value-preserved
loop-value-preserved c =
    summed_next c.args.values.now c.loop-value.value-index _ c.loop-value.types c.loop-value.bodies c.serial-serial.result c.size_of.result c.body_size_of-bodies.result
    c.loop-value-test.true c.loop-value.invariant (c.is_writable.ensures.0 c.if-not-is_writable.false) c.serial-serial.ensures c.size_of.ensures.size c.body_size_of-bodies.ensures
    c.if-types-bodies.false

pub returns-then-not-is_writable : goal.returns-then-not-is_writable
returns-then-not-is_writable c =
    one_too_long c.args.values.now c.loop-value.value-index _ c.loop-value-test.true (λ w. let t = c.is_writable.ensures.1 w in (cc))

pub returns-then-types-bodies : goal.returns-then-types-bodies
returns-then-types-bodies c =
    too_many c.args.values.now c.loop-value.value-index _ c.loop-value.types c.loop-value.bodies c.serial-serial.result c.size_of.result c.body_size_of-bodies.result
    c.loop-value-test.true c.loop-value.invariant c.serial-serial.ensures c.size_of.ensures.size c.body_size_of-bodies.ensures c.if-types-bodies.true
