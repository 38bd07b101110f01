use Rattle.sqval.proofs.payload.ShortestRecord.{typed_none, typed_next, item_writable}
use Rattle.sqval.proofs.encoding.push_types.Goals as goal

pub loop-value-init : goal.loop-value-init
loop-value-init c = typed_none c.args.out.now.items

pub serial-requires : goal.serial-requires
serial-requires c = item_writable c.args.values.now c.loop-value.value-index _ c.loop-value-test.true c.requires

pub loop-value-preserved : goal.loop-value-preserved
loop-value-preserved c =
    let more = c.in_ok-push_varint.ensures.appended in
    typed_next c.args.values.now c.loop-value.value-index _ c.args.out.now.items c.loop-value.out.items c.push_varint.new.out.items more.0 c.serial.result
    c.loop-value-test.true c.loop-value.invariant c.serial.ensures more.1 more.2 more.3
