use Rattle.std.proofs.Common.{◌≤◌, ◌^◌, ◌++◌, length, length-append, sym, subst, arith}
use Rattle.std.proofs.lemmas.Result.{err_from_is_err_and, MatchResult-weaker}
use Rattle.std.proofs.lemmas.Option.{MatchOption-at_some}
use Rattle.sqjournal.specs.Took.{IsTakeable, Refuses}
use Rattle.sqjournal.specs.declared.error.JournalError.{JournalError}
use Rattle.sqjournal.proofs.read.BytesTakenByReplay.{taken_of, refuses_header, refuses_memory}
use Rattle.sqjournal.proofs.replay.Replay.feed.Goals as goal

pub returns-then-piece-self : goal.returns-then-piece-self
returns-then-piece-self c = λ b t. (simp length-append (omega (arith, taken_of b c.args.self.now t)), t)

pub returns-in_err-reading : goal.returns-in_err-reading
returns-in_err-reading c = λ b t.
    let w = b ++ c.args.piece.now in
    let short : length w ≤ 2 ^ 40 = simp length-append (omega (arith, taken_of b c.args.self.now t, c.args.self.now.within)) in
    let p = err_from_is_err_and c.from_residual.result c.from_residual.ensures.1 in
    let bad = c.in_err-reading.ensures.judged b t in
    rw p.1 (subst (λ (e : JournalError). Refuses w e) (sym p.2) (refuses_header w _ short bad.0 bad.1), t)

pub returns-in-Some : goal.returns-in-Some
returns-in-Some c = λ b t.
    let w = b ++ c.args.piece.now in
    let short : length w ≤ 2 ^ 40 = simp length-append (omega (arith, taken_of b c.args.self.now t, c.args.self.now.within)) in
    let judged = MatchOption-at_some _ _ c.in-Some.reading c.in-Some.is (c.in_ok-reading.ensures.judged b t) in
    let takeable : IsTakeable w = record { within = short; first = λ _. judged.1.stands.first } in
    MatchResult-weaker c.go_on.result (c.go_on.ensures b t judged.1) (λ _ took. (takeable, took)) (λ e q. (refuses_memory w e q.0 takeable, q.1))
