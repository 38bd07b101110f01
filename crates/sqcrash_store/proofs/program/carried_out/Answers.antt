use Rattle.std.proofs.Common.{inr, Result, sym, subst}
use Rattle.sqcrash_store.specs.Ends.{Comes, SaysAny}
use Rattle.sqcrash_store.specs.Refused.{IsOfWriter, TraceRefused}
use Rattle.sqcrash_store.specs.declared.outcome.Refusal.{Refusal}
use Rattle.sqcrash_store.specs.declared.tally.Tally.{Tally}
use Rattle.sqcrash_store.proofs.AppendedBytes.{appends_kept}
use Rattle.sqcrash_store.proofs.PassedRefusals.{of_error}
use Rattle.sqcrash_store.proofs.RefusedTraces.{of_writer, some_called}
use Rattle.sqcrash_store.proofs.program.carried_out.Goals as goal

pub returns-in_err-tally : goal.returns-in_err-tally
returns-in_err-tally g c =
    let out = g.O.Write.contents in
    let plan = c.args.request.now.plan in
    let bytes = c.deref.result.now in
    of_error c.from_residual-in_err-tally.result (λ (r : Result Tally Refusal). Comes plan (out c.args.out.now) (out c.judge_trace.new.out) r) _ c.from_residual-in_err-tally.ensures.1
    (λ x same. inr (bytes, subst (λ (r : Refusal). TraceRefused SaysAny plan bytes r) (sym same) c.in_err-tally.ensures.refused))

pub returns-in_err-flush : goal.returns-in_err-flush
returns-in_err-flush g c =
    let out = g.O.Write.contents in
    let plan = c.args.request.now.plan in
    let bytes = c.deref.result.now in
    let found = c.in_ok-tally.ensures.judged in
    let judgment = found.2 in
    let some = some_called SaysAny plan bytes c.in_ok-tally.tally found.0 found.1 judgment c.in_ok-tally.ensures.some in
    of_error c.from_residual-in_err-flush.result (λ (r : Result Tally Refusal). Comes plan (out c.args.out.now) (out c.flush.new.self) r) IsOfWriter c.from_residual-in_err-flush.ensures.1
    (λ x is. inr (bytes, of_writer SaysAny plan bytes judgment.trace x judgment.is_trace some is))

pub returns : goal.returns
returns g c =
    let out = g.O.Write.contents in
    let found = c.in_ok-tally.ensures.judged in (
      c.deref.result.now,
      found.0,
      found.1,
      found.2,
      c.in_ok-tally.ensures.some,
      c.in_ok-tally.ensures.images,
      appends_kept (out c.args.out.now) (out c.judge_trace.new.out) (out c.flush.new.self) found.0 found.3 c.flush.ensures.bytes,
    )
