use Rattle.std.proofs.Common.{◌≡◌, arith, inr, ℕ, ◌+◌, Bool, List, [], ◌++◌, refl, ◌∙◌, ap, subst}
use Rattle.std.specs.Io.KnownBytes.{Appends}
use Rattle.sqcrash_store.specs.Judged.{Keeps, kept_among}
use Rattle.sqcrash_store.specs.Points.{is_judged}
use Rattle.sqcrash_store.specs.Printed.{claim_lines}
use Rattle.sqcrash_store.specs.Refused.{ClaimRefused, ImagesRefused}
use Rattle.sqcrash_store.specs.Rigs.{rig_of, crash_of, JudgesAsked}
use Rattle.sqcrash_store.specs.States.{is_mark}
use Rattle.sqcrash_store.specs.Surveys.{Judging, IsSurvey, drawn_count, judging_of, lines_from, seen, with_images}
use Rattle.sqcrash_store.specs.Tallies.{with_claim_of, with_point}
use Rattle.sqcrash_store.specs.declared.crash.Crash.{Crash}
use Rattle.sqcrash_store.specs.declared.tally.Tally.{Tally}
use Rattle.sqcrash_store.proofs.AppendedBytes.{appends_none, appends_more}
use Rattle.sqcrash_store.proofs.KeptImages.{keeps_none}
use Rattle.sqcrash_store.proofs.PassedRefusals.{passed}
use Rattle.sqcrash_store.proofs.RoomForImages.{claim_fewer, images_at_mark, images_at_point}
use Rattle.sqcrash_store.proofs.rig.Rig.judge.Goals as goal

pub returns-then-not-is_judged-clause-judged : goal.returns-then-not-is_judged-clause-judged
returns-then-not-is_judged-clause-judged g c =
    let bench = c.args.bench.now in
    let old = rig_of c.args.self.now in
    let tally = c.in_ok-tally.tally in
    let asked = c.if-not-is_judged.ensures ∙ ap (λ (t : Tally). is_judged bench.plan t.points) c.in_ok-tally.ensures in (
      [],
      [],
      subst (λ (b : Bool). JudgesAsked g.J.Judge.says b (judging_of bench) c.args.call.now old tally [] []) asked (c.in_ok-tally.ensures, refl, refl),
      refl,
      appends_none (g.O.Write.contents c.args.out.now),
      keeps_none (g.J.Judge.kept c.args.judge.now),
    )

pub returns-clause-judged : goal.returns-clause-judged
returns-clause-judged g c =
    let bench = c.args.bench.now in
    let j = judging_of bench in
    let call = c.args.call.now in
    let old = rig_of c.args.self.now in
    let tally = c.in_ok-tally.tally in
    let asked = c.if-not-is_judged.ensures ∙ ap (λ (t : Tally). is_judged bench.plan t.points) c.in_ok-tally.ensures in
    let claim = c.in_ok-claimed.ensures.judged in
    let found = claim.0 in
    let claimed = c.in_ok-claimed.claimed in
    let one = c.in_ok-self.ensures.judged in
    let judged = one.0 in
    let new : Tally = c.in_ok-self.field-0 in
    let before = g.O.Write.contents c.args.out.now in
    let mid = g.O.Write.contents c.judge_claim.new.out in
    let after = g.O.Write.contents c.survey.new.out in
    let at : ◌≡◌ {A = Crash} (record { point = tally.points; known = old.known; played = old.played; call = call }) (crash_of old call) = ap (λ (t : Tally). record { point = t.points; known = old.known; played = old.played; call = call }) c.in_ok-tally.ensures in
    let first : List ℕ = claim_lines bench.plan tally old.marks found in
    let u : Judging = seen j (is_mark call.action) old.marks in
    let seen_by : judging_of c.seen-seen.result ≡ u = c.seen-seen.ensures ∙ ap (λ (b : Bool). seen j b old.marks) c.is_mark.ensures in
    let rest : List ℕ = lines_from u claimed judged in
    let same : claimed ≡ with_claim_of (with_point old.tally) found = claim.2 ∙ ap (λ (t : Tally). with_claim_of t found) c.in_ok-tally.ensures in (
      first ++ rest,
      kept_among bench.plan judged,
      subst (λ (b : Bool). JudgesAsked g.J.Judge.says b j call old new (first ++ rest) (kept_among bench.plan judged)) asked (
        found,
        claim.1,
        judged,
        subst (λ (p : Crash). IsSurvey g.J.Judge.says u old.store p judged) at (subst (λ (x : Judging). IsSurvey g.J.Judge.says x old.store (record { point = tally.points; known = old.known; played = old.played; call = call }) judged) seen_by one.1),
        one.2 ∙ ap (λ (t : Tally). with_images t judged) same,
        ap (λ (t : Tally). claim_lines bench.plan t old.marks found ++ rest) c.in_ok-tally.ensures
            ∙ ap (λ (t : Tally). claim_lines bench.plan (with_point old.tally) old.marks found ++ lines_from u t judged) same,
        refl,
      ),
      refl,
      appends_more before mid after first rest claim.3 (subst (λ (x : Judging). Appends mid after (lines_from x claimed judged)) seen_by one.3),
      subst (λ (x : Judging). Keeps (g.J.Judge.kept c.args.judge.now) (g.J.Judge.kept c.survey.new.judge) (kept_among x.plan judged)) seen_by one.4,
    )

pub returns-in_err-claimed-clause-refused : goal.returns-in_err-claimed-clause-refused
returns-in_err-claimed-clause-refused g c =
    let j = judging_of c.args.bench.now in
    let old = rig_of c.args.self.now in
    let n = drawn_count j.plan + 1 in
    let refusal = c.in_err-claimed.field-0.0 in
    let is = subst (λ (t : Tally). ClaimRefused t refusal) c.in_ok-tally.ensures c.in_err-claimed.ensures.refused in
    passed c.from_residual-in_err-claimed.result _ _ _ c.from_residual-in_err-claimed.ensures.1
    (inr (images_at_point n j.names old.tally refusal (claim_fewer n j.names (with_point old.tally) refusal (omega arith) is)))

pub returns-in_err-self-clause-refused : goal.returns-in_err-self-clause-refused
returns-in_err-self-clause-refused g c =
    let j = judging_of c.args.bench.now in
    let old = rig_of c.args.self.now in
    let refusal = c.in_err-self.field-0.0 in
    let claim = c.in_ok-claimed.ensures.judged in
    let found = claim.0 in
    let same : c.in_ok-claimed.claimed ≡ with_claim_of (with_point old.tally) found = claim.2 ∙ ap (λ (t : Tally). with_claim_of t found) c.in_ok-tally.ensures in
    let seen_by : judging_of c.seen-seen.result ≡ seen j c.is_mark.result old.marks = c.seen-seen.ensures in
    let refused = subst (λ (x : Judging). ImagesRefused (drawn_count x.plan) x.names c.in_ok-claimed.claimed refusal) seen_by c.in_err-self.ensures.refused in
    let is = subst (λ (t : Tally). ImagesRefused (drawn_count j.plan) j.names t refusal) same refused in
    passed c.from_residual-in_err-self.result _ _ _ c.from_residual-in_err-self.ensures.1
    (inr (images_at_point (drawn_count j.plan + 1) j.names old.tally refusal (images_at_mark (drawn_count j.plan) j.names (with_point old.tally) found refusal is)))
