use Rattle.std.proofs.Common.{subst}
use Rattle.sqindex.specs.internal.Streaming.{IsEnded}
use Rattle.sqindex.proofs.stream.take.Goals as goal

pub go_on-stage-requires-clause-keyed : goal.go_on-stage-requires-clause-keyed
go_on-stage-requires-clause-keyed g c = subst (IsEnded c.args.key.now c.args.entry.now) c.in-Some.is c.requires.keyed
