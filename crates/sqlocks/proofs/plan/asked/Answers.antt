use Rattle.std.proofs.Common.{◌≡◌, ◌+◌, fold, drop, get_or, subst, ◌∙◌, sym, ap}
use Rattle.std.proofs.lemmas.List.{at_drop_more, at_drop_all}
use Rattle.sqlocks.specs.declared.plan.Answer.TheVariants.{Given}
use Rattle.sqlocks.specs.declared.plan.Step.{Step}
use Rattle.sqlocks.specs.declared.places.Place.{Place}
use Rattle.sqlocks.specs.declared.places.Place.TheVariants.{OpenFile}
use Rattle.sqlocks.specs.Places.{next, step_at}
use Rattle.sqlocks.specs.Runs.{MayAsk, log_of}
use Rattle.sqlocks.proofs.RightRuns.{run-right, next-right}
use Rattle.sqlocks.proofs.plan.asked.Goals as goal

pub loop-answer-preserved : goal.loop-answer-preserved
loop-answer-preserved c =
    let answers = c.args.answers.now in
    let i = c.loop-answer.answer-index in
    ap (λ (place : Place). fold next place (drop (i + 1) answers)) c.next-place.ensures
    ∙ sym (at_drop_more (fold next c.loop-answer.place) answers i Given c.loop-answer-test.true) ∙ c.loop-answer.invariant

pub returns-clause-run : goal.returns-clause-run
returns-clause-run c = run-right c.args.want c.args.answers.now

pub returns-clause-next : goal.returns-clause-next
returns-clause-next c =
    let answers = c.args.answers.now in
    let there = sym (at_drop_all (fold next c.loop-answer.place) answers c.loop-answer.answer-index c.loop-answer-test.false) ∙ c.loop-answer.invariant in
    subst (λ (step : Step). MayAsk c.args.want (log_of c.args.want answers) step)
    (sym (c.step_at.ensures ∙ ap step_at there)) (next-right c.args.want answers)
