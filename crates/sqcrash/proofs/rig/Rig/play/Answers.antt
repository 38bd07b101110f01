use Rattle.std.proofs.Common.{◌≡◌, ◌+◌, inr, Bool, true, ◌&&◌, map, refl, sym, subst}
use Rattle.rig_families.specs.Families.{noted}
use Rattle.rig_families.specs.Versions.{named_of, version_now}
use Rattle.rig_play.specs.Plays.{Files}
use Rattle.sqcrash.specs.Runs.{run_of}
use Rattle.sqcrash.specs.Surveys.{one_if}
use Rattle.sqcrash.specs.Rigs.{JudgesWhere, is_point}
use Rattle.sqcrash.proofs.PassedRefusals.{passed}
use Rattle.sqcrash.proofs.rig.Rig.play.Goals as goal

pub returns-clause-judged : goal.returns-clause-judged
returns-clause-judged g c =
    let rig = c.args.self.now in
    let every = is_point rig.plan.every c.args.call.now in
    let point = c.in_ok-point.point in
    let versions = map (λ v. named_of v) c.note.new.self.versions.items in
    let noted_now : versions ≡ noted c.args.call.now.kind (map (λ v. named_of v) rig.prefixes.versions.items) (version_now (run_of c.play.new.self).files) =
    subst (λ (s : Files). versions ≡ noted c.args.call.now.kind (map (λ v. named_of v) rig.prefixes.versions.items) (version_now s)) c.player.ensures c.in_ok-note.ensures in
    let found = c.in_ok-found.found in (
      c.in_ok-play.ensures,
      subst (λ (b : Bool). point ≡ rig.point + one_if b) c.if-not-is_point.ensures c.in_ok-point.ensures,
      subst (λ (b : Bool). JudgesWhere (every && b) rig.plan.images versions (run_of c.play.new.self) rig.tally found.tally found.findings.items) c.if-not-is_of_part.ensures
          (subst (λ (b : Bool). JudgesWhere (b && true) rig.plan.images versions (run_of c.play.new.self) rig.tally found.tally found.findings.items) c.if-not-is_point.ensures
          (found, c.in_ok-found.ensures, refl, refl)),
      noted_now,
    )

pub returns-in_err-found-clause-refused : goal.returns-in_err-found-clause-refused
returns-in_err-found-clause-refused g c =
    passed c.from_residual-in_err-found.result _ _ _ c.from_residual-in_err-found.ensures.1 (inr (sym c.if-not-is_point.ensures, inr c.in_err-found.ensures))
