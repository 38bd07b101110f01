use Rattle.sqval.proofs.payload.ShortestRecord.{filled_none, filled_next, item_writable}
use Rattle.sqval.proofs.encoding.push_bodies.Goals as goal

pub loop-value-init : goal.loop-value-init
loop-value-init c = filled_none c.args.out.now.items

pub push_body-requires : goal.push_body-requires
push_body-requires c = item_writable c.args.values.now c.loop-value.value-index _ c.loop-value-test.true c.requires

pub loop-value-preserved : goal.loop-value-preserved
loop-value-preserved c =
    let more = c.in_ok-push_body.ensures.appended in
    filled_next c.args.values.now c.loop-value.value-index _ c.args.out.now.items c.loop-value.out.items c.push_body.new.out.items more.0
    c.loop-value-test.true c.loop-value.invariant more.1 more.2
