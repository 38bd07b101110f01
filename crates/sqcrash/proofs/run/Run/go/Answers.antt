use Rattle.std.proofs.Common.{ap}
use Rattle.std.proofs.lemmas.Result.{MatchResult-weaker}
use Rattle.sqcrash.specs.Runs.{run_of, size_of}
use Rattle.sqcrash.proofs.KeptCalls.{goes_why, goes_no_why}
use Rattle.sqcrash.proofs.run.Run.go.Goals as goal

pub returns-in-Some : goal.returns-in-Some
returns-in-Some c =
    MatchResult-weaker c.go_kept.result c.go_kept.ensures
    (λ done is. goes_why c.in-Some.size.bytes c.args.trace.now c.args.call.now (run_of c.args.self.now) (run_of c.go_kept.new.self) (ap size_of c.in-Some.is) is) (λ refusal is. is)

pub returns-in-None : goal.returns-in-None
returns-in-None c =
    MatchResult-weaker c.go_plain.result c.go_plain.ensures
    (λ done is. goes_no_why c.args.trace.now c.args.call.now (run_of c.args.self.now) (run_of c.go_plain.new.self) (ap size_of c.in-None.is) is) (λ refusal is. is)
