use Rattle.sqworld.proofs.Facts.{HasServed, take}
use Rattle.sqworld.proofs.world.run_events.Given as goal

abbrev pub invariant-loop-event : goal.invariant-loop-event
invariant-loop-event g l = HasServed g.E.Engine.kind l.base (take l.event-index l.events) l.world
