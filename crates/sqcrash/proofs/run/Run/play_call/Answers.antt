use Rattle.std.proofs.Common.{inl}
use Rattle.std.proofs.lemmas.Result.{MatchResult-weaker}
use Rattle.sqcrash.specs.Runs.{run_of}
use Rattle.sqcrash.proofs.PlayedRecords.{keeps_begins, refused_keeps}
use Rattle.sqcrash.proofs.PassedRefusals.{passed}
use Rattle.sqcrash.proofs.run.Run.play_call.Goals as goal

pub returns-in_err-go : goal.returns-in_err-go
returns-in_err-go c =
    let old = run_of c.args.self.now in
    let begun = run_of c.begin.new.self in
    passed c.from_residual-in_err-go.result _ _ _ c.from_residual-in_err-go.ensures.1
    (refused_keeps c.args.trace.now c.args.call.now old begun _ (keeps_begins c.args.call.now.thread old begun c.in_ok-begin.ensures) c.in_err-go.ensures)

pub returns : goal.returns
returns c =
    MatchResult-weaker c.take.result c.take.ensures
    (λ done takes. (run_of c.begin.new.self, run_of c.go.new.self, c.in_ok-begin.ensures, c.in_ok-go.ensures, takes))
    (λ refusal memory. inl memory)
