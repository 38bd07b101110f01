use Rattle.std.proofs.Common.{inl, inr, [], ◌∷◌, ◌++◌, Result, refl, sym, subst}
use Rattle.sqcrash.specs.Ends.{Comes}
use Rattle.sqcrash.specs.declared.outcome.Refusal.{Refusal}
use Rattle.sqcrash.specs.declared.survey.Tally.{Tally}
use Rattle.sqcrash.specs.Lines.{sum_text}
use Rattle.sqcrash.proofs.AppendedBytes.{appends_kept, appends_more}
use Rattle.sqcrash.proofs.PassedRefusals.{is_passed}
use Rattle.sqcrash.proofs.program.carried_out.Goals as goal

pub returns-in_err-bytes : goal.returns-in_err-bytes
returns-in_err-bytes g c =
    subst (λ (r : Result Tally Refusal). Comes c.args.request.now.plan (g.O.Write.contents c.args.out.now) (g.O.Write.contents c.args.out.now) r) (sym (is_passed c.from_residual.result _ c.from_residual.ensures.1)) (inl (c.in_err-bytes.ensures, refl))

pub returns-in_err-folder : goal.returns-in_err-folder
returns-in_err-folder g c =
    subst (λ (r : Result Tally Refusal). Comes c.args.request.now.plan (g.O.Write.contents c.args.out.now) (g.O.Write.contents c.args.out.now) r) (sym (is_passed c.from_residual-in_err-folder.result _ c.from_residual-in_err-folder.ensures.1))
    (inl (inr c.in_err-folder.ensures.failed.1, refl))

pub returns-in_err-tally : goal.returns-in_err-tally
returns-in_err-tally g c =
    subst (λ (r : Result Tally Refusal). Comes c.args.request.now.plan (g.O.Write.contents c.args.out.now) (g.O.Write.contents c.judge_trace.new.out) r) (sym (is_passed c.from_residual-in_err-tally.result _ c.from_residual-in_err-tally.ensures.1))
    (inr (c.deref.result.now, c.in_err-tally.ensures.refused, c.in_err-tally.ensures.unread))

pub returns-in_err-write_sum : goal.returns-in_err-write_sum
returns-in_err-write_sum g c =
    subst (λ (r : Result Tally Refusal). Comes c.args.request.now.plan (g.O.Write.contents c.args.out.now) (g.O.Write.contents c.write_sum.new.out) r) (sym (is_passed c.from_residual-in_err-write_sum.result _ c.from_residual-in_err-write_sum.ensures.1))
    (inr ([], tt, tt))

pub returns-in_err-flush : goal.returns-in_err-flush
returns-in_err-flush g c =
    subst (λ (r : Result Tally Refusal). Comes c.args.request.now.plan (g.O.Write.contents c.args.out.now) (g.O.Write.contents c.flush.new.self) r) (sym (is_passed c.from_residual-in_err-flush.result _ c.from_residual-in_err-flush.ensures.1))
    (inr ([], tt, tt))

pub returns : goal.returns
returns g c =
    let out = g.O.Write.contents in
    let found = c.in_ok-tally.ensures.judged in
    let sum = sum_text c.args.request.now.plan.style c.in_ok-tally.tally ++ 10 ∷ [] in
    let all = appends_more (out c.args.out.now) (out c.judge_trace.new.out) (out c.write_sum.new.out) found.0 sum found.2 c.in_ok-write_sum.ensures in (
      c.deref.result.now,
      found.0,
      found.1,
      c.in_ok-tally.ensures.some,
      appends_kept (out c.args.out.now) (out c.write_sum.new.out) (out c.flush.new.self) (found.0 ++ sum) all c.flush.ensures.bytes,
    )
