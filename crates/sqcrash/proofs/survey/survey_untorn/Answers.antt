use Rattle.std.proofs.Common.{inl, inr, subst, Option, Ok, arith}
use Rattle.std.proofs.lemmas.Result.{MatchResult-weaker}
use Rattle.rig_play.specs.Plays.{Files}
use Rattle.rig_images.specs.Images.{CountsAnswer}
use Rattle.rig_images.specs.declared.counts.Counts.{Counts}
use Rattle.sqcrash.specs.Runs.{run_of}
use Rattle.sqcrash.proofs.RefusedImages.{judging_within}
use Rattle.sqcrash.proofs.survey.survey_untorn.Goals as goal

pub returns-in-Some : goal.returns-in-Some
returns-in-Some g c =
    let run = run_of c.args.run.now in
    let counted = subst (λ (s : Files). CountsAnswer s c.args.limit (Ok c.in_ok-counts.field-0)) c.player.ensures c.in_ok-counts.ensures in
    let answer = subst (λ (o : Option Counts). CountsAnswer run.files c.args.limit (Ok o)) c.in-Some.is counted in
    MatchResult-weaker c.survey_numbered.result c.survey_numbered.ensures (λ done survey. inl (answer.1, survey))
    (λ refusal is. judging_within c.args.survey.now c.in-Some.counts.images c.args.limit refusal (let e = answer.0.images in omega (arith, e, answer.1)) is)

pub returns-in-None : goal.returns-in-None
returns-in-None g c =
    let run = run_of c.args.run.now in
    let counted = subst (λ (s : Files). CountsAnswer s c.args.limit (Ok c.in_ok-counts.field-0)) c.player.ensures c.in_ok-counts.ensures in
    let answer = subst (λ (o : Option Counts). CountsAnswer run.files c.args.limit (Ok o)) c.in-None.is counted in
    MatchResult-weaker c.survey_some.result c.survey_some.ensures (λ done survey. inr (answer, survey)) (λ refusal is. is)
