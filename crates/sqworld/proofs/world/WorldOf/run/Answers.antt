use Rattle.sqworld.proofs.Facts.{run_of}
use Rattle.sqworld.proofs.world.WorldOf.run.Goals as goal

pub returns-clause-served : goal.returns-clause-served
returns-clause-served g c base events h = run_of g.E.Engine.kind base events g.met.E.Engine.lawful c.args.self.now h
