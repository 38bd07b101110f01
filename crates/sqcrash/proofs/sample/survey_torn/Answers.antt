use Rattle.std.proofs.Common.{◌≡◌, ◌≢◌, ◌<◌, true, false, refl, subst, arith}
use Rattle.std.specs.Prelude.{Bool, MatchBool}
use Rattle.std.proofs.Common.{inl, inr}
use Rattle.rig_play.specs.Plays.{files_of}
use Rattle.rig_images.specs.Torn.{MayLeaveTorn, NoneTears}
use Rattle.sqcrash.proofs.SampledImages.{still_torn}
use Rattle.rig_play.specs.Plays.{Files}
use Rattle.rig_images.specs.declared.image.Image.{Image}
use Rattle.sqcrash.specs.Runs.{run_of}
use Rattle.sqcrash.proofs.SampledImages.{sampled_none, sampled_on, sample_done}
use Rattle.sqcrash.proofs.RefusedImages.{judging_sampled}
use Rattle.sqcrash.proofs.PassedRefusals.{passed}
use Rattle.sqcrash.proofs.sample.survey_torn.Goals as goal

pub loop-n-init : goal.loop-n-init
loop-n-init g c =
    let run = run_of c.args.run.now in
    let Left : Image → Type 0 = λ image. MayLeaveTorn run.files c.args.which image in
    let torn = subst (λ (b : Bool). MatchBool b (MayLeaveTorn (files_of c.player-player.result.now) c.args.which c.draw_torn.new.image) (NoneTears (files_of c.player-player.result.now) c.args.which)) c.if-not-branch.false c.in_ok-draw_torn.ensures in
    (subst (λ (s : Files). MayLeaveTorn s c.args.which c.draw_torn.new.image) c.player-player.ensures torn, sampled_none Left run c.args.limit c.new-sample.result c.args.survey.now c.new-sample.ensures.keys c.new-sample.ensures.left, λ went. absurd (omega arith))

pub loop-n-preserved : goal.loop-n-preserved
loop-n-preserved g c =
    let run = run_of c.args.run.now in
    let Left : Image → Type 0 = λ image. MayLeaveTorn run.files c.args.which image in
    let so_far = c.loop-n.invariant in
    let full : c.loop-n.sample.left ≢ 0 = λ e. let no : false ≡ true = c.if-is_full.ensures.1 e in cc in
    let on = sampled_on Left run c.args.limit c.args.survey.now c.loop-n.sample c.judge.new.self c.loop-n.survey c.judge.new.survey c.loop-n.image so_far.1 so_far.0 (omega arith) (c.in_ok-judge.ensures.judged tt) in
    let next = subst (λ (s : Files). MatchBool c.in_ok-draw_torn-2.field-0 (MayLeaveTorn s c.args.which c.draw_torn-in-loop-n.new.image) (NoneTears s c.args.which)) c.player-player.ensures c.in_ok-draw_torn-2.ensures in
    (still_torn run.files c.args.which c.loop-n.image c.draw_torn-in-loop-n.new.image c.in_ok-draw_torn-2.field-0 so_far.0 next, on.so, λ went. on.some)

pub returns-then-is_full : goal.returns-then-is_full
returns-then-is_full g c =
    let run = run_of c.args.run.now in
    let Left : Image → Type 0 = λ image. MayLeaveTorn run.files c.args.which image in
    let so = c.loop-n.invariant.1 in
    let full : c.loop-n.sample.left ≡ 0 = c.if-is_full.ensures.0 refl in
    inl (sample_done Left run c.args.limit c.args.survey.now c.loop-n.survey c.loop-n.sample so (λ some. omega (arith, so.count)))

pub returns : goal.returns
returns g c =
    let run = run_of c.args.run.now in
    let Left : Image → Type 0 = λ image. MayLeaveTorn run.files c.args.which image in
    let so = c.loop-n.invariant.1 in
    let end : c.loop-n.n ≡ c.tries-n-end.result = omega (arith, c.loop-n.auto.n-end, c.loop-n-test.false) in
    inl (sample_done Left run c.args.limit c.args.survey.now c.loop-n.survey c.loop-n.sample so
    (λ some. c.loop-n.invariant.2 (let went : 0 < c.loop-n.n = omega (arith, end, c.tries-n-end.ensures some) in went)))

pub returns-then-not-branch : goal.returns-then-not-branch
returns-then-not-branch g c =
    let none = subst (λ (b : Bool). MatchBool b (MayLeaveTorn (files_of c.player-player.result.now) c.args.which c.draw_torn.new.image) (NoneTears (files_of c.player-player.result.now) c.args.which)) c.if-not-branch.true c.in_ok-draw_torn.ensures in
    inr (subst (λ (s : Files). NoneTears s c.args.which) c.player-player.ensures none, refl)

pub returns-in_err-judge : goal.returns-in_err-judge
returns-in_err-judge g c =
    let run = run_of c.args.run.now in
    let Left : Image → Type 0 = λ image. MayLeaveTorn run.files c.args.which image in
    let full : c.loop-n.sample.left ≢ 0 = λ e. let no : false ≡ true = c.if-is_full.ensures.1 e in cc in
    passed c.from_residual-in_err-judge.result _ _ _ c.from_residual-in_err-judge.ensures.1
    (judging_sampled Left run c.args.limit c.args.survey.now c.loop-n.sample c.loop-n.survey _ c.loop-n.invariant.1 (omega arith) c.in_err-judge.ensures.refused)
