use Rattle.std.proofs.Common.{◌≡◌, ◌≢◌, ◌<◌, true, false, map, refl, subst, arith}
use Rattle.rig_images.specs.Left.{MayLeave}
use Rattle.rig_play.specs.Plays.{Files}
use Rattle.rig_images.specs.declared.image.Image.{Image}
use Rattle.rig_families.specs.Versions.{named_of}
use Rattle.sqcrash.specs.Runs.{run_of}
use Rattle.sqcrash.proofs.SampledImages.{drawing_on, drawing_done}
use Rattle.sqcrash.proofs.RefusedImages.{judging_sampled}
use Rattle.sqcrash.proofs.PassedRefusals.{passed}
use Rattle.sqcrash.proofs.sample.survey_drawn.Goals as goal

pub loop-n-init : goal.loop-n-init
loop-n-init g c =
    let run = run_of c.args.run.now in
    let Left : Image → Type 0 = λ image. MayLeave run.files image in
    (subst (λ (s : Files). MayLeave s c.draw.new.image) c.player-player.ensures c.in_ok-draw.ensures, c.in_ok-sample.ensures, λ went. absurd (omega arith))

pub loop-n-preserved : goal.loop-n-preserved
loop-n-preserved g c =
    let run = run_of c.args.run.now in
    let Left : Image → Type 0 = λ image. MayLeave run.files image in
    let so_far = c.loop-n.invariant in
    let full : c.loop-n.sample.left ≢ 0 = λ e. let no : false ≡ true = c.if-is_full.ensures.1 e in cc in
    let on = drawing_on (map (λ v. named_of v) c.args.prefixes.now.versions.items) run c.args.limit c.args.survey.now c.loop-n.sample c.judge.new.self c.loop-n.survey c.judge.new.survey c.loop-n.image so_far.1 so_far.0 (omega arith) (c.in_ok-judge.ensures.judged tt) in
    (subst (λ (s : Files). MayLeave s c.draw-in-loop-n.new.image) c.player-player.ensures c.in_ok-draw-2.ensures, on.0, λ went. on.1)

pub returns-then-is_full : goal.returns-then-is_full
returns-then-is_full g c =
    let run = run_of c.args.run.now in
    let Left : Image → Type 0 = λ image. MayLeave run.files image in
    let is = c.loop-n.invariant.1 in
    let so = is.so in
    let full : c.loop-n.sample.left ≡ 0 = c.if-is_full.ensures.0 refl in
    drawing_done (map (λ v. named_of v) c.args.prefixes.now.versions.items) run c.args.limit c.args.survey.now c.loop-n.survey c.loop-n.sample is (λ some. let count = so.count in omega (arith, count))

pub returns : goal.returns
returns g c =
    let run = run_of c.args.run.now in
    let Left : Image → Type 0 = λ image. MayLeave run.files image in
    let is = c.loop-n.invariant.1 in
    let so = is.so in
    let end : c.loop-n.n ≡ c.tries-n-end.result = omega (arith, c.loop-n.auto.n-end, c.loop-n-test.false) in
    drawing_done (map (λ v. named_of v) c.args.prefixes.now.versions.items) run c.args.limit c.args.survey.now c.loop-n.survey c.loop-n.sample is
    (λ some. c.loop-n.invariant.2 (let went : 0 < c.loop-n.n = omega (arith, end, c.tries-n-end.ensures some) in went))

pub returns-in_err-judge : goal.returns-in_err-judge
returns-in_err-judge g c =
    let run = run_of c.args.run.now in
    let Left : Image → Type 0 = λ image. MayLeave run.files image in
    let full : c.loop-n.sample.left ≢ 0 = λ e. let no : false ≡ true = c.if-is_full.ensures.1 e in cc in
    passed c.from_residual-in_err-judge.result _ _ _ c.from_residual-in_err-judge.ensures.1
    (judging_sampled Left run c.args.limit c.args.survey.now c.loop-n.sample c.loop-n.survey _ c.loop-n.invariant.1.so (omega arith) c.in_err-judge.ensures.refused)
