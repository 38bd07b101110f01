use Rattle.std.proofs.Common.{◌≡◌, ℕ, Bool, List, [], map, refl, ◌∙◌, ap, subst}
use Rattle.std.specs.Io.KnownBytes.{Appends}
use Rattle.rig_families.specs.Versions.{named_of}
use Rattle.rig_families.specs.declared.version.Version.{Version}
use Rattle.sqcrash.specs.Runs.{RunState}
use Rattle.sqcrash.specs.Surveys.{no_tally}
use Rattle.sqcrash.specs.Lines.{commits_text}
use Rattle.sqcrash.specs.Rigs.{RigState, rig_of, no_rig, marked_rig, BeginsBy}
use Rattle.sqcrash.specs.declared.marked.CommitFault.{CommitFault}
use Rattle.sqcrash.specs.declared.plan.Plan.{Plan}
use Rattle.sqcrash.specs.declared.survey.Tally.{Tally}
use Rattle.sqcrash.specs.declared.rig.Rig.{Rig}
use Rattle.sqcrash.proofs.AppendedBytes.{appends_none}
use Rattle.sqcrash.proofs.program.begun.Goals as goal

-- a rig that plays nothing yet
is_new : (plan : Plan) (rig : Rig) → (rig_of rig).run ≡ (no_rig plan).run → rig.prefixes.versions.items ≡ [] → rig.tally ≡ no_tally → rig.point ≡ 0 → rig_of rig ≡ no_rig plan
is_new plan rig e none f h =
    let make : RunState → List Version → Tally → ℕ → RigState = λ r vs t p. record { run = r; versions = map (λ v. named_of v) vs; tally = t; point = p } in
    ap (λ (r : RunState). make r rig.prefixes.versions.items rig.tally rig.point) e ∙ ap (λ (vs : List Version). make (no_rig plan).run vs rig.tally rig.point) none
    ∙ ap (λ (t : Tally). make (no_rig plan).run [] t rig.point) f ∙ ap (λ (p : ℕ). make (no_rig plan).run [] no_tally p) h

pub returns-then-not-are_at_marks-clause-begins : goal.returns-then-not-are_at_marks-clause-begins
returns-then-not-are_at_marks-clause-begins g c =
    let plan = c.args.plan in
    let rig = c.new-rig.result in (
      [],
      subst (λ (b : Bool). BeginsBy b plan c.args.bytes.now c.args.records.now (rig_of rig) []) c.if-not-are_at_marks.ensures (is_new plan rig c.new-rig.ensures.run c.new-rig.ensures.versions c.new-rig.ensures.tally c.new-rig.ensures.point, refl),
      appends_none (g.O.Write.contents c.args.out.now),
    )

pub returns-clause-begins : goal.returns-clause-begins
returns-clause-begins g c =
    let plan = c.args.plan in
    let rig = c.new-rig.result in
    let m = c.in_ok-marked.marked in
    let faults = m.faults.items in
    let old = g.O.Write.contents c.args.out.now in
    let new = g.O.Write.contents c.write_commits.new.out in
    let is : rig_of c.wait_for.new.self ≡ marked_rig (no_rig plan) m =
    c.wait_for.ensures.rig ∙ ap (λ (r : RigState). marked_rig r m) (is_new plan rig c.new-rig.ensures.run c.new-rig.ensures.versions c.new-rig.ensures.tally c.new-rig.ensures.point) in (
      commits_text plan.style faults,
      subst (λ (b : Bool). BeginsBy b plan c.args.bytes.now c.args.records.now (rig_of c.wait_for.new.self) (commits_text plan.style faults)) c.if-not-are_at_marks.ensures (m, c.in_ok-marked.ensures, is, refl),
      subst (λ (l : List CommitFault). Appends old new (commits_text plan.style l)) c.deref.ensures.value c.in_ok-write_commits.ensures,
    )
