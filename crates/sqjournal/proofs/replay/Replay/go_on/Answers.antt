use Rattle.std.proofs.Common.{◌∙◌, ◌++◌, List, ℕ, length, length-append, refl, sym, ap, subst, arith}
use Rattle.std.proofs.lemmas.Result.{err_from_is_err_and}
use Rattle.sqjournal.specs.Reading.{IsSound}
use Rattle.sqjournal.proofs.read.BytesTakenByReplay.{took_judged, took_same, taken_of}
use Rattle.sqjournal.proofs.replay.Replay.go_on.Goals as goal

pub invariant_of-self : goal.invariant_of-self
invariant_of-self c =
    let kept = c.in_err-next.ensures.kept in
    record {
      within = c.args.self.now.within;
      unjudged = λ e. let u = c.args.self.now.unjudged e in (ap length kept ∙ u.0, u.1);
      sound = λ r e. subst (λ (l : List ℕ). IsSound c.args.self.now.taken (length l) r) (sym kept) (c.args.self.now.sound r e);
    }

pub returns-in_err-next : goal.returns-in_err-next
returns-in_err-next c = λ b t g.
    let p = err_from_is_err_and c.from_residual.result c.from_residual.ensures.1 in
    rw p.1 (p.2, took_same b c.args.self.now _ t refl refl c.in_err-next.ensures.kept c.in_err-next.ensures.records)

pub returns : goal.returns
returns c = λ b t g.
    let taken = taken_of b c.args.self.now t in
    let after = c.in_ok-next.ensures.stands b (sym taken) g.keeps g.stands in
    took_judged (b ++ c.args.piece.now) _ c.in_ok-next.next refl (simp length-append (omega arith)) after.0 after.1
