use Rattle.sqworld.proofs.Facts.{rules, taken_on, taken_whole}
use Rattle.sqworld.proofs.world.run_events.Goals as goal

pub loop-event-preserved : goal.loop-event-preserved
loop-event-preserved g c =
    taken_on g.E.Engine.kind c.args.base.now c.args.events.now c.loop-event.event-index c.event-item.result c.loop-event.world c.serve.new.self (search rules) c.event-item.is (search rules) c.loop-event.invariant

pub returns : goal.returns
returns g c = c.finish-run.ensures.served c.args.base.now c.args.events.now (taken_whole g.E.Engine.kind c.args.base.now c.args.events.now c.loop-event.event-index c.loop-event.world (search rules) c.loop-event.invariant)
