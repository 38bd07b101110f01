use Rattle.sqworld.proofs.Facts.{refl, rules, serves_next}
use Rattle.sqworld.proofs.world.WorldOf.serve.Goals as goal

pub returns-in-Ok-clause-serves : goal.returns-in-Ok-clause-serves
returns-in-Ok-clause-serves g c base events h =
    serves_next g.E.Engine.kind base events g.met.E.Engine.lawful c.args.event.now c.args.self.now _ c.in-Some.engine c.go-engine.result.0 (search rules) (search rules) refl refl (search rules) h
