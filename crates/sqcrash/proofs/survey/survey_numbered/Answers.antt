use Rattle.std.proofs.Common.{◌≡◌, ℕ, ◌+◌, ◌≤◌, [], ◌∷◌, ◌++◌, length, length-append, refl, ◌∙◌, subst, arith}
use Rattle.rig_play.specs.Plays.{Files}
use Rattle.rig_images.specs.Images.{IsNumbered}
use Rattle.sqcrash.specs.Runs.{run_of}
use Rattle.sqcrash.specs.Surveys.{Judged}
use Rattle.sqcrash.specs.Samples.{TakesOne}
use Rattle.sqcrash.proofs.TallyOfJudgedImages.{numbered_more, tells_more, tells_none}
use Rattle.sqcrash.proofs.RefusedImages.{judging_told}
use Rattle.sqcrash.proofs.PassedRefusals.{passed}
use Rattle.sqcrash.proofs.survey.survey_numbered.Goals as goal

pub loop-n-init : goal.loop-n-init
loop-n-init g c = ([], refl, tt, tells_none (run_of c.args.run.now) c.args.survey.now)

pub loop-n-preserved : goal.loop-n-preserved
loop-n-preserved g c =
    let run = run_of c.args.run.now in
    let counts = c.args.counts.now in
    let image = c.set.new.self in
    let so_far = c.loop-n.invariant in
    let one : TakesOne run image c.loop-n.survey c.judge.new.self = c.in_ok-judge.ensures.judged tt in
    let x : Judged = record { image = image; judgment = one.0; missing = one.1 } in
    let next : c.loop-n.n ≡ 0 + length so_far.0 = omega (arith, so_far.1) in
    let is : IsNumbered run.files counts (0 + length so_far.0) image =
    subst (λ (n : ℕ). IsNumbered run.files counts n image) next (subst (λ (s : Files). IsNumbered s counts c.loop-n.n image) c.player.ensures c.in_ok-set.ensures) in (
      so_far.0 ++ x ∷ [],
      omega (arith, length-append so_far.0 (x ∷ []), so_far.1),
      numbered_more run counts 0 so_far.0 x so_far.2 is,
      tells_more run so_far.0 x c.args.survey.now c.loop-n.survey c.judge.new.self so_far.3 one.2 one.3,
    )

pub returns : goal.returns
returns g c =
    let counts = c.args.counts.now in
    let all = c.loop-n.invariant in
    let end : c.loop-n.n ≡ c.images-n-end.result = omega (arith, c.loop-n.auto.n-end, c.loop-n-test.false) in
    record {
      judged = all.0;
      counts = counts;
      are = c.requires;
      numbered = all.2;
      all = all.1 ∙ end ∙ c.images-n-end.ensures ∙ c.requires.images;
      told = all.3;
    }

pub returns-in_err-judge : goal.returns-in_err-judge
returns-in_err-judge g c =
    let so_far = c.loop-n.invariant in
    let end = c.images-n-end.ensures in
    let less : length so_far.0 + 1 ≤ c.args.counts.now.images = omega (arith, so_far.1, end, c.loop-n-test.true) in
    passed c.from_residual-in_err-judge.result _ _ _ c.from_residual-in_err-judge.ensures.1
    (judging_told (run_of c.args.run.now) so_far.0 c.args.survey.now c.loop-n.survey c.args.counts.now.images _ so_far.3 less c.in_err-judge.ensures.refused)
