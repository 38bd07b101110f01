-- How far the counts go up with each record that is judged.
use Rattle.std.proofs.Common.{◌≡◌, inl, inr, ℕ, suc, ◌+◌, ◌*◌, ◌<◌, ◌≤◌, Bool, true, false, cond, ◌&&◌, List, [], ◌∷◌, length, refl, sym, ◌∙◌, ap, subst, length-append, arith}
use Rattle.std.specs.List.{count_by}
use Rattle.std.proofs.lemmas.Bool.{cases_lt}
use Rattle.std.proofs.lemmas.List.{length-map}
use Rattle.std.proofs.lemmas.List.Concat.{flat_map-cons}
use Rattle.std.proofs.lemmas.List.Sums.{count_by-le-length, sum_by-append}
use Rattle.rig_play.specs.declared.trace.Record.{Record}
use Rattle.rig_families.specs.Versions.{Named}
use Rattle.rig_images.specs.declared.torn.Which.{Which}
use Rattle.rig_images.specs.declared.torn.Which.TheVariants.{Db, Wal, Journal}
use Rattle.rig_judge.specs.declared.judgment.Judgment.{Judgment}
use Rattle.rig_judge.specs.declared.judgment.Judgment.TheVariants.{Kept, Lost, Mixed, Fault, Refused}
use Rattle.rig_missing.specs.declared.missing.Missing.{Missing}
use Rattle.sqcrash.specs.Lines.{asked_texts, texts_of}
use Rattle.sqcrash.specs.Refusals.{most_images}
use Rattle.sqcrash.specs.Rigs.{RigState, JudgesWhere, JudgesAll, is_point, is_of_part, stopped_at, texts_at}
use Rattle.sqcrash.specs.Runs.{RunState}
use Rattle.sqcrash.specs.Surveys.{is_lost, is_mixed, is_fault, one_if, with_images, third_of, Judged, judgments, finding_of, findings_from, Tells, IsUntornSurvey, IsTornSurvey, IsSurvey}
use Rattle.sqcrash.specs.Told.{Told}
use Rattle.sqcrash.specs.declared.plan.Plan.{Plan}
use Rattle.sqcrash.specs.declared.stopped.Stopped.{Stopped}
use Rattle.sqcrash.specs.declared.survey.Survey.{Survey}
use Rattle.sqcrash.specs.declared.survey.Tally.{Tally}

-- with so many images more, at most
pub record Grows (n : ℕ) (old new : Tally) : Type 0 where
  pub points : new.points ≡ old.points
  pub images : new.images ≤ old.images + n
  pub lost : new.lost ≤ old.lost + n
  pub mixed : new.mixed ≤ old.mixed + n
  pub faults : new.faults ≤ old.faults + n

pub grows_with : (t : Tally) (js : List Judgment) (n : ℕ) → length js ≤ n → Grows n t (with_images t js)
grows_with t js n few = record {
  points = refl;
  images = omega arith;
  lost = omega (arith, count_by-le-length is_lost js);
  mixed = omega (arith, count_by-le-length is_mixed js);
  faults = omega (arith, count_by-le-length is_fault js);
}

finding_few : (k : ℕ) (j : Judgment) (missing : List Missing) → length (finding_of k j missing) ≤ 1
finding_few k (Kept i) missing = omega arith
finding_few k (Lost i) missing = omega arith
finding_few k Mixed missing = omega arith
finding_few k (Fault e) missing = omega arith
finding_few k (Refused e) missing = omega arith

findings_few : (k : ℕ) (judged : List Judged) → length (findings_from k judged) ≤ length judged
findings_few k [] = omega arith
findings_few k (x ∷ judged) =
    let one = finding_few k x.judgment x.missing in
    let more = findings_few (suc k) judged in
    let e = length-append (finding_of k x.judgment x.missing) (findings_from (suc k) judged) in
    omega (arith, one, more, e)

-- the same of what is found
pub record GrowsBy (n : ℕ) (old new : Survey) : Type 0 where
  pub tally : Grows n old.tally new.tally
  pub next : new.next ≤ old.next + n
  pub found : length new.findings.items ≤ length old.findings.items + n

pub grows_tells : (run : RunState) (judged : List Judged) (old new : Survey) (n : ℕ) → Tells run judged old new → length judged ≤ n → GrowsBy n old new
grows_tells run judged old new n tells few =
    let js = judgments judged in
    let long : length js ≡ length judged = length-map judged (λ (x : Judged). x.judgment) in
    record {
      tally = subst (λ (t : Tally). Grows n old.tally t) (sym tells.tally) (grows_with old.tally js n (omega arith));
      next = omega (arith, tells.next);
      found =
          let e = ap (λ (l : List Told). length l) tells.findings in
          omega (arith, e, length-append old.findings.items (findings_from old.next judged), findings_few old.next judged, few);
    }

pub grows_none : (n : ℕ) (s : Survey) → GrowsBy n s s
grows_none n s = record { tally = record { points = refl; images = omega arith; lost = omega arith; mixed = omega arith; faults = omega arith }; next = omega arith; found = omega arith }

pub grows_more : (a b : ℕ) (old mid new : Survey) → GrowsBy a old mid → GrowsBy b mid new → GrowsBy (a + b) old new
grows_more a b old mid new first more = record {
  tally = record {
    points = more.tally.points ∙ first.tally.points;
    images = omega (arith, first.tally.images, more.tally.images);
    lost = omega (arith, first.tally.lost, more.tally.lost);
    mixed = omega (arith, first.tally.mixed, more.tally.mixed);
    faults = omega (arith, first.tally.faults, more.tally.faults);
  };
  next = omega (arith, first.next, more.next);
  found = omega (arith, first.found, more.found);
}

pub grows_untorn : (versions : List Named) (run : RunState) (limit : ℕ) (old new : Survey) → IsUntornSurvey versions run limit old new → GrowsBy limit old new
grows_untorn versions run limit old new is = elim is [
  | inl all ↦ let one = all.1 in grows_tells run one.judged old new limit one.told (let e = one.all in omega (arith, e, all.0))
  | inr some ↦ let one = some.1.sample in grows_tells run one.judged old new limit one.told one.most
]

pub grows_torn : (run : RunState) (w : Which) (limit : ℕ) (old new : Survey) → IsTornSurvey run w limit old new → GrowsBy limit old new
grows_torn run w limit old new is = elim is [
  | inl some ↦ grows_tells run some.judged old new limit some.told some.most
  | inr none ↦ subst (λ (s : Survey). GrowsBy limit old s) (sym none.1) (grows_none limit old)
]

-- the images of one point more, and what is found of them
pub record GrowsPoint (limit : ℕ) (old : Tally) (new : Survey) : Type 0 where
  pub points : new.tally.points ≡ old.points + 1
  pub images : new.tally.images ≤ old.images + most_images limit
  pub lost : new.tally.lost ≤ old.lost + most_images limit
  pub mixed : new.tally.mixed ≤ old.mixed + most_images limit
  pub faults : new.tally.faults ≤ old.faults + most_images limit
  pub found : length new.findings.items ≤ most_images limit

pub grows_point : (versions : List Named) (run : RunState) (limit : ℕ) (old : Tally) (new : Survey) → IsSurvey versions run limit old new → GrowsPoint limit old new
grows_point versions run limit old new is =
    let third = third_of limit in
    let first = is.begins in
    let a = grows_untorn versions run limit is.begun is.mid is.untorn in
    let b = grows_torn run Db third is.mid is.db is.torn_db in
    let d = grows_torn run Wal third is.db is.wal is.torn_wal in
    let e = grows_torn run Journal third is.wal new is.torn_journal in
    record {
      points = omega (arith, ap (λ (t : Tally). t.points) first.tally, a.tally.points, b.tally.points, d.tally.points, e.tally.points);
      images = omega (arith, ap (λ (t : Tally). t.images) first.tally, a.tally.images, b.tally.images, d.tally.images, e.tally.images);
      lost = omega (arith, ap (λ (t : Tally). t.lost) first.tally, a.tally.lost, b.tally.lost, d.tally.lost, e.tally.lost);
      mixed = omega (arith, ap (λ (t : Tally). t.mixed) first.tally, a.tally.mixed, b.tally.mixed, d.tally.mixed, e.tally.mixed);
      faults = omega (arith, ap (λ (t : Tally). t.faults) first.tally, a.tally.faults, b.tally.faults, d.tally.faults, e.tally.faults);
      found = omega (arith, ap (λ (l : List Told). length l) first.findings, a.found, b.found, d.found, e.found);
    }

one_text : {X : Type 0} (b : Bool) (x : X) → length (cond b (x ∷ []) []) ≤ 1
one_text true x = omega arith
one_text false x = omega arith

texts_few : (plan : Plan) (at : Stopped) (found : List Told) → length (texts_of plan at found) ≤ length found
texts_few plan at [] = omega arith
texts_few plan at (x ∷ found) =
    let e = ap (λ (l : List (List ℕ)). length l) (flat_map-cons (asked_texts plan at) x found) in
    let long = length-append (asked_texts plan at x) (texts_of plan at found) in
    let one : length (asked_texts plan at x) ≤ 1 = one_text _ _ in
    omega (arith, e, long, one, texts_few plan at found)

-- records more, and so many findings
pub record Counted (most n : ℕ) (old new : RigState) (told : ℕ) : Type 0 where
  pub points : new.tally.points ≤ old.tally.points + n
  pub point : new.point ≤ old.point + n
  pub images : new.tally.images ≤ old.tally.images + n * most
  pub lost : new.tally.lost ≤ old.tally.lost + n * most
  pub mixed : new.tally.mixed ≤ old.tally.mixed + n * most
  pub faults : new.tally.faults ≤ old.tally.faults + n * most
  pub lines : told ≤ n * most

-- what is judged at a record, or isn't
record Judging (most : ℕ) (old new : Tally) (told : List Told) : Type 0 where
  points : new.points ≤ old.points + 1
  images : new.images ≤ old.images + most
  lost : new.lost ≤ old.lost + most
  mixed : new.mixed ≤ old.mixed + most
  faults : new.faults ≤ old.faults + most
  found : length told ≤ most

judging : (b : Bool) (limit : ℕ) (versions : List Named) (run : RunState) (old new : Tally) (found : List Told) → JudgesWhere b limit versions run old new found → Judging (most_images limit) old new found
judging true limit versions run old new found is =
    let grows = grows_point versions run limit old is.0 is.1 in
    let e = is.2 in
    record {
      points = omega (arith, ap (λ (t : Tally). t.points) e, grows.points);
      images = omega (arith, ap (λ (t : Tally). t.images) e, grows.images);
      lost = omega (arith, ap (λ (t : Tally). t.lost) e, grows.lost);
      mixed = omega (arith, ap (λ (t : Tally). t.mixed) e, grows.mixed);
      faults = omega (arith, ap (λ (t : Tally). t.faults) e, grows.faults);
      found = omega (arith, ap (λ (l : List Told). length l) is.3, grows.found);
    }
judging false limit versions run old new found is =
    let e = is.0 in
    record {
      points = omega (arith, ap (λ (t : Tally). t.points) e);
      images = omega (arith, ap (λ (t : Tally). t.images) e);
      lost = omega (arith, ap (λ (t : Tally). t.lost) e);
      mixed = omega (arith, ap (λ (t : Tally). t.mixed) e);
      faults = omega (arith, ap (λ (t : Tally). t.faults) e);
      found = omega (arith, ap (λ (l : List Told). length l) is.1);
    }

one_few : (b : Bool) → one_if b ≤ 1
one_few true = omega arith
one_few false = omega arith

as_before : (images a d : ℕ) → d ≡ a → d ≤ a + 0 * images
as_before images a d e = omega (arith, e)

no_lines : (images d : ℕ) → d ≡ 0 → d ≤ 0 * images
no_lines images d e = omega (arith, e)

-- with one more of so many each
more_each : (images n a b d : ℕ) → b ≤ a + images → d ≤ b + n * images → d ≤ a + suc n * images
more_each images n a b d one more = omega (arith, one, more)

more_lines : (images n x y d : ℕ) → d ≡ x + y → x ≤ images → y ≤ n * images → d ≤ suc n * images
more_lines images n x y d e one more = omega (arith, e, one, more)

-- all records
pub counted_all : (plan : Plan) (b : List ℕ) (records : List Record) (old new : RigState) (lines : List (List ℕ)) → JudgesAll plan b records old new lines
    → Counted (most_images plan.images) (length records) old new (length lines)
counted_all plan b [] old new lines is =
    let e = is.0 in
    record {
      points = omega (arith, ap (λ (s : RigState). s.tally.points) e);
      point = omega (arith, ap (λ (s : RigState). s.point) e);
      images = as_before (most_images plan.images) _ _ (ap (λ (s : RigState). s.tally.images) e);
      lost = as_before (most_images plan.images) _ _ (ap (λ (s : RigState). s.tally.lost) e);
      mixed = as_before (most_images plan.images) _ _ (ap (λ (s : RigState). s.tally.mixed) e);
      faults = as_before (most_images plan.images) _ _ (ap (λ (s : RigState). s.tally.faults) e);
      lines = no_lines (most_images plan.images) _ (ap (λ (l : List (List ℕ)). length l) is.1);
    }
counted_all plan b (r ∷ records) old new lines is =
    let images = most_images plan.images in
    let one = is.3 in
    let mid = is.0 in
    let judged = judging (is_point plan.every r && is_of_part plan.part mid.point) plan.images mid.versions mid.run old.tally mid.tally is.1 one.2 in
    let more = counted_all plan b records mid new is.2 is.4 in
    let few = one_few (is_point plan.every r) in
    let texts = texts_at plan b r mid is.1 in
    let long : length lines ≡ length texts + length is.2 = ap (λ (l : List (List ℕ)). length l) is.5 ∙ length-append texts is.2 in
    let few_texts : length texts ≤ images = (let a = texts_few plan (stopped_at b r mid) is.1 in let d = judged.found in omega (arith, a, d)) in
    record {
      points = omega (arith, judged.points, more.points);
      point = omega (arith, one.1, few, more.point);
      images = more_each images (length records) old.tally.images mid.tally.images new.tally.images judged.images more.images;
      lost = more_each images (length records) old.tally.lost mid.tally.lost new.tally.lost judged.lost more.lost;
      mixed = more_each images (length records) old.tally.mixed mid.tally.mixed new.tally.mixed judged.mixed more.mixed;
      faults = more_each images (length records) old.tally.faults mid.tally.faults new.tally.faults judged.faults more.faults;
      lines = more_lines images (length records) (length texts) (length is.2) (length lines) long few_texts more.lines;
    }

-- no point of a part was judged, where none is counted
pub record NoneJudged (plan : Plan) (old : RigState) (n : ℕ) : Type 0 where
  pub points : old.tally.points ≡ 0
  pub each : (point : ℕ) → old.point < point → point ≤ old.point + n → is_of_part plan.part point ≡ false

-- of one record
step_none : (p q : Bool) (limit : ℕ) (versions : List Named) (run : RunState) (old new : Tally) (found : List Told) → JudgesWhere (p && q) limit versions run old new found → new.points ≡ 0
    → (old.points ≡ 0) × (p ≡ true → q ≡ false)
step_none true true limit versions run old new found is none =
    let grows = grows_point versions run limit old is.0 is.1 in
    absurd (omega (arith, grows.points, ap (λ (t : Tally). t.points) is.2, none))
step_none true false limit versions run old new found is none = (omega (arith, ap (λ (t : Tally). t.points) is.0, none), λ e. refl)
step_none false q limit versions run old new found is none = (omega (arith, ap (λ (t : Tally). t.points) is.0, none), λ e. absurd (cc e))

-- a point is the one of a record, or a later one
each_behind : (plan : Plan) (p : Bool) (old mid n : ℕ) → mid ≡ old + one_if p → (p ≡ true → is_of_part plan.part mid ≡ false)
    → ((point : ℕ) → mid < point → point ≤ mid + n → is_of_part plan.part point ≡ false) → (point : ℕ) → old < point → point ≤ old + (one_if p + n) → is_of_part plan.part point ≡ false
each_behind plan false old mid n e here later point above below = later point (omega arith) (omega arith)
each_behind plan true old mid n e here later point above below = elim (cases_lt mid point) [
  | inl behind ↦ later point behind (omega arith)
  | inr last ↦ let same : mid ≡ point = omega arith in subst (λ (k : ℕ). is_of_part plan.part k ≡ false) same (here refl)
]

pub none_judged : (plan : Plan) (b : List ℕ) (records : List Record) (old new : RigState) (lines : List (List ℕ)) → JudgesAll plan b records old new lines → new.tally.points ≡ 0
    → NoneJudged plan old (count_by (is_point plan.every) records)
none_judged plan b [] old new lines is none =
    record { points = ap (λ (s : RigState). s.tally.points) (sym is.0) ∙ none; each = λ point above below. absurd (omega arith) }
none_judged plan b (r ∷ records) old new lines is none =
    let mid = is.0 in
    let p = is_point plan.every r in
    let n = count_by (is_point plan.every) records in
    let later = none_judged plan b records mid new is.2 is.4 none in
    let one = step_none p (is_of_part plan.part mid.point) plan.images mid.versions mid.run old.tally mid.tally is.1 is.3.2 later.points in
    let all : count_by (is_point plan.every) (r ∷ records) ≡ one_if p + n =
    (let e = sum_by-append (λ (x : Record). cond (is_point plan.every x) 1 0) (r ∷ []) records in omega (arith, e)) in
    record {
      points = one.0;
      each = λ point above below. each_behind plan p old.point mid.point n is.3.1 one.1 later.each point above (omega (arith, all, below));
    }
