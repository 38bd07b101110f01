use Rattle.std.proofs.Common.{◌≡◌, inl, inr, ◌/◌, ◌<◌, true, false, List, length, map, refl, sym, ◌∙◌, ap, subst, arith}
use Rattle.std.proofs.lemmas.Bool.{cases_lt}
use Rattle.rig_play.specs.Plays.{Files, files_of}
use Rattle.rig_families.specs.Likeliest.{AreFamilies}
use Rattle.rig_families.specs.Versions.{Named, named_of, version_now}
use Rattle.rig_families.specs.Members.{member_count}
use Rattle.rig_families.specs.declared.version.Version.{Version}
use Rattle.sqcrash.specs.Runs.{run_of}
use Rattle.sqcrash.proofs.LikeliestImages.{taking_none, taking_next, taking_more, taking_enough, taking_all, member_of, kept_on, families_on, none_kept, some_made, none_made}
use Rattle.sqcrash.proofs.RefusedImages.{judging_sampled}
use Rattle.sqcrash.proofs.PassedRefusals.{passed}
use Rattle.sqcrash.proofs.sample.survey_likeliest.Goals as goal

pub put-requires : goal.put-requires
put-requires g c =
    let same = ap (λ (l : List Version). length l) (c.loop-n.invariant.1.versions ∙ sym c.in_ok-families.ensures.families.versions) in
    omega (arith, same, c.count-count.ensures.few, c.loop-n-test.true)

pub loop-n-init : goal.loop-n-init
loop-n-init g c =
    let run = run_of c.args.run.now in
    let versions = c.args.prefixes.now.versions.items in (
      taking_none (map (λ v. named_of v) versions) run c.args.limit c.new-sample.result c.args.survey.now c.new-sample.ensures.keys c.new-sample.ensures.left,
      subst (λ (s : Files). AreFamilies s versions c.in_ok-families.families) c.player-player.ensures c.in_ok-families.ensures.families,
      none_kept run.files c.of.new.image c.in_ok-families.families.but c.in_ok-families.ensures.none,
    )

pub loop-n-preserved-then-not-made : goal.loop-n-preserved-then-not-made
loop-n-preserved-then-not-made g c =
    let run = run_of c.args.run.now in
    let s = files_of c.player-player.result.now in
    let versions = c.args.prefixes.now.versions.items in
    let is = c.loop-n.invariant in
    let f = c.loop-n.families in
    let member = member_of s run.files versions f f.but c.loop-n.image c.put.new.image c.loop-n.n c.in_ok-made.made c.player-player.ensures is.1 is.2 c.in_ok-made.ensures.made in (
      taking_next (map (λ v. named_of v) versions) run c.args.limit c.args.survey.now c.loop-n.sample c.loop-n.survey c.loop-n.n _ is.0
          (none_made run.files (map (λ v. named_of v) versions) c.loop-n.n c.put.new.image c.in_ok-made.made member c.if-not-made.true) (omega arith),
      families_on run.files versions f c.put.new.self _ is.1 c.in_ok-made.ensures.same,
      kept_on s run.files versions f f.but c.put.new.self.but c.loop-n.image c.put.new.image c.player-player.ensures is.1 is.2 c.in_ok-made.ensures.kept,
    )

pub loop-n-preserved : goal.loop-n-preserved
loop-n-preserved g c =
    let run = run_of c.args.run.now in
    let s = files_of c.player-player.result.now in
    let versions = c.args.prefixes.now.versions.items in
    let is = c.loop-n.invariant in
    let f = c.loop-n.families in
    let member = member_of s run.files versions f f.but c.loop-n.image c.put.new.image c.loop-n.n c.in_ok-made.made c.player-player.ensures is.1 is.2 c.in_ok-made.ensures.made in
    let more : c.args.limit / 2 < c.loop-n.sample.left = elim (cases_lt (c.args.limit / 2) c.loop-n.sample.left) [
      | inl less ↦ less
      | inr past ↦ absurd (let no : false ≡ true = c.if-is_down_to.ensures.1 past in cc)
    ] in
    let made = some_made run.files (map (λ v. named_of v) versions) c.loop-n.n c.put.new.image c.in_ok-made.made member c.if-not-made.false in (
      taking_more (map (λ v. named_of v) versions) run c.args.limit c.args.survey.now c.loop-n.sample c.judge.new.sample c.loop-n.survey c.judge.new.survey c.loop-n.n _ c.put.new.image is.0 made.0 made.1
          more (c.in_ok-judge.ensures.judged c.in_ok-log.ensures) (omega arith),
      families_on run.files versions f c.put.new.self _ is.1 c.in_ok-made.ensures.same,
      kept_on s run.files versions f f.but c.put.new.self.but c.loop-n.image c.put.new.image c.player-player.ensures is.1 is.2 c.in_ok-made.ensures.kept,
    )

pub returns-then-is_down_to : goal.returns-then-is_down_to
returns-then-is_down_to g c =
    let run = run_of c.args.run.now in
    taking_enough (map (λ v. named_of v) c.args.prefixes.now.versions.items) run c.args.limit c.args.survey.now c.loop-n.sample c.loop-n.survey c.loop-n.n c.loop-n.invariant.0 (c.if-is_down_to.ensures.0 refl)

pub returns : goal.returns
returns g c =
    let run = run_of c.args.run.now in
    let versions = c.args.prefixes.now.versions.items in
    let are = subst (λ (s : Files). AreFamilies s versions c.in_ok-families.families) c.player-player.ensures c.in_ok-families.ensures.families in
    let count : c.count-count.result ≡ member_count (map (λ v. named_of v) versions) (version_now run.files) =
    c.count-count.ensures.count ∙ ap (λ (l : List Version). member_count (map (λ v. named_of v) l) (named_of c.in_ok-families.families.present)) are.versions
    ∙ ap (λ (v : Named). member_count (map (λ v. named_of v) versions) v) are.present in
    taking_all (map (λ v. named_of v) versions) run c.args.limit c.args.survey.now c.loop-n.sample c.loop-n.survey c.loop-n.n c.loop-n.invariant.0 (omega (arith, count, c.loop-n-test.false))

pub returns-in_err-judge : goal.returns-in_err-judge
returns-in_err-judge g c =
    let run = run_of c.args.run.now in
    let more : c.args.limit / 2 < c.loop-n.sample.left = elim (cases_lt (c.args.limit / 2) c.loop-n.sample.left) [
      | inl less ↦ less
      | inr past ↦ absurd (let no : false ≡ true = c.if-is_down_to.ensures.1 past in cc)
    ] in
    passed c.from_residual-in_err-judge.result _ _ _ c.from_residual-in_err-judge.ensures.1
    (judging_sampled _ run c.args.limit c.args.survey.now c.loop-n.sample c.loop-n.survey _ c.loop-n.invariant.0.so (omega (arith, more)) c.in_err-judge.ensures.refused)
