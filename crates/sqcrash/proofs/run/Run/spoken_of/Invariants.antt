use Rattle.sqcrash.specs.Promises.{MadeNoneFrom}
use Rattle.sqcrash.proofs.run.Run.spoken_of.Given as goal

abbrev pub invariant-loop-k : goal.invariant-loop-k
invariant-loop-k l = MadeNoneFrom l.self.makers.items l.thread l.k
