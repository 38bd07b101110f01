use Rattle.sqworld.proofs.Facts.{run_of}
use Rattle.sqworld.proofs.world.WorldOf.finish.Goals as goal

pub returns-in-Some-clause-served : goal.returns-in-Some-clause-served
returns-in-Some-clause-served g c base events h = run_of g.E.Engine.kind base events g.met.E.Engine.lawful c.args.self h
