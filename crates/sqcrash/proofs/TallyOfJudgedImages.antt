-- One more image is judged, counted and told.
use Rattle.std.proofs.Common.{◌≡◌, ℕ, zero, suc, ◌+◌, IsTrue, Option, Some, None, Bool, cond, List, [], ◌∷◌, ◌++◌, length, sym, ◌∙◌, ap, subst, append_assoc, length-append, arith}
use Rattle.std.specs.List.{All, count_by}
use Rattle.std.proofs.lemmas.List.{map-append, append-nil}
use Rattle.std.proofs.lemmas.List.Elements.{All-append}
use Rattle.std.proofs.lemmas.List.Sums.{sum_by-append}
use Rattle.sqwal.specs.Took.{Took}
use Rattle.sqwal.specs.declared.scan.Scan.{Scan}
use Rattle.rig_images.specs.Images.{IsNumbered}
use Rattle.rig_images.specs.declared.counts.Counts.{Counts}
use Rattle.rig_images.specs.declared.fixed.Fixed.{Fixed}
use Rattle.rig_images.specs.declared.image.Image.{Image}
use Rattle.rig_judge.specs.declared.judgment.Judgment.{Judgment}
use Rattle.sqcrash.specs.Runs.{RunState}
use Rattle.sqcrash.specs.Surveys.{is_lost, is_mixed, is_fault, one_if, with_image, with_images, Judged, judgments, finding_of, findings_from, IsJudgedBy, Tells, AreNumbered, IsFixedScan, IsScanOf}
use Rattle.sqcrash.specs.Samples.{Adds}
use Rattle.sqcrash.specs.declared.survey.Tally.{Tally}
use Rattle.sqcrash.specs.Told.{Told}
use Rattle.sqcrash.specs.declared.survey.Survey.{Survey}

one_more : {X : Type 0} (p : X → Bool) (xs : List X) (x : X) (n : ℕ) → n + count_by p (xs ++ x ∷ []) ≡ n + count_by p xs + one_if (p x)
one_more p xs x n = let e = sum_by-append (λ y. cond (p y) 1 0) xs (x ∷ []) in omega (arith, e)

-- a tally with these images and one more
pub images_more : (t : Tally) (js : List Judgment) (j : Judgment) → with_images t (js ++ j ∷ []) ≡ with_image (with_images t js) j
images_more t js j =
    let a : t.images + length (js ++ j ∷ []) ≡ t.images + length js + 1 = omega (arith, length-append js (j ∷ [])) in
    let b = one_more is_lost js j t.lost in
    let d = one_more is_mixed js j t.mixed in
    let e = one_more is_fault js j t.faults in
    cc

-- what is told of an image by its number
abbrev pub told_of : (n : ℕ) → Judged → List Told
told_of n x = finding_of n x.judgment x.missing

-- what is told of one more
pub findings_more : (n : ℕ) (judged : List Judged) (x : Judged) → findings_from n (judged ++ x ∷ []) ≡ findings_from n judged ++ told_of (n + length judged) x
findings_more n [] x = append-nil (told_of n x) ∙ ap (λ (k : ℕ). told_of k x) (omega arith)
findings_more n (first ∷ judged) x =
    ap (λ (l : List Told). told_of n first ++ l) (findings_more (suc n) judged x)
    ∙ sym (append_assoc (told_of n first) (findings_from (suc n) judged) (told_of (suc n + length judged) x))
    ∙ ap (λ (k : ℕ). (told_of n first ++ findings_from (suc n) judged) ++ told_of k x) (omega arith)

-- one more by its number
pub numbered_more : (run : RunState) (c : Counts) (n : ℕ) (judged : List Judged) (x : Judged) → AreNumbered run c n judged → IsNumbered run.files c (n + length judged) x.image → AreNumbered run c n (judged ++ x ∷ [])
numbered_more run c n [] x are is = (subst (λ (k : ℕ). IsNumbered run.files c k x.image) (omega arith) is, tt)
numbered_more run c n (first ∷ judged) x are is = (are.0, numbered_more run c (suc n) judged x are.1 (subst (λ (k : ℕ). IsNumbered run.files c k x.image) (omega arith) is))

-- what holds of one holds of all of it alone, and anything of all of none
pub all_one : {X : Type 0} (P : X → Type 0) (x : X) → P x → All P (x ∷ [])
all_one P x is zero d below = is
all_one P x is (suc k) d below = absurd (omega arith)

pub all_none : {X : Type 0} (P : X → Type 0) → All P []
all_none P k d below = absurd (omega arith)

-- one more that is judged
pub tells_more : (run : RunState) (judged : List Judged) (x : Judged) (old mid new : Survey) → Tells run judged old mid → IsJudgedBy run x → Adds x.judgment x.missing mid new → Tells run (judged ++ x ∷ []) old new
tells_more run judged x old mid new told is adds =
    let js = judgments judged in
    let all : judgments (judged ++ x ∷ []) ≡ js ++ x.judgment ∷ [] = map-append (λ (y : Judged). y.judgment) judged (x ∷ []) in
    record {
      each = All-append (IsJudgedBy run) judged (x ∷ []) told.each (all_one (IsJudgedBy run) x is);
      tally = adds.tally ∙ ap (λ (t : Tally). with_image t x.judgment) told.tally ∙ sym (images_more old.tally js x.judgment) ∙ ap (λ (l : List Judgment). with_images old.tally l) (sym all);
      findings = adds.findings
          ∙ ap (λ (l : List Told). l ++ told_of mid.next x) told.findings
          ∙ append_assoc old.findings.items (findings_from old.next judged) (told_of mid.next x)
          ∙ ap (λ (k : ℕ). old.findings.items ++ (findings_from old.next judged ++ told_of k x)) told.next
          ∙ ap (λ (l : List Told). old.findings.items ++ l) (sym (findings_more old.next judged x));
      next = omega (arith, adds.next, told.next, length-append judged (x ∷ []));
    }

-- none are told
pub tells_none : (run : RunState) (s : Survey) → Tells run [] s s
tells_none run s = record { each = all_none (IsJudgedBy run); tally = no_images s.tally; findings = sym (append-nil s.findings.items); next = omega arith }
  where
    no_images : (t : Tally) → t ≡ with_images t []
    no_images t =
        let make : ℕ → ℕ → ℕ → ℕ → Tally = λ i l m f. record t { images = i; lost = l; mixed = m; faults = f } in
        let a : t.images ≡ t.images + 0 = omega arith in
        let b : t.lost ≡ t.lost + 0 = omega arith in
        let d : t.mixed ≡ t.mixed + 0 = omega arith in
        let e : t.faults ≡ t.faults + 0 = omega arith in
        ap (λ i. make i t.lost t.mixed t.faults) a
        ∙ ap (λ l. make (t.images + 0) l t.mixed t.faults) b
        ∙ ap (λ m. make (t.images + 0) (t.lost + 0) m t.faults) d
        ∙ ap (λ f. make (t.images + 0) (t.lost + 0) (t.mixed + 0) f) e

-- the scan of a fixed log is that of another image with this log
pub scan_stays : (fixed : Fixed) (old new : Image) (scan : Option Scan) → IsFixedScan fixed old scan → (IsTrue fixed.wal → new.wal.items ≡ old.wal.items) → IsFixedScan fixed new scan
scan_stays fixed old new None is same = tt
scan_stays fixed old new (Some scan) is same = (is.0, subst (λ (b : List ℕ). Took b scan) (sym (same is.0)) is.1)

pub scan_is : (fixed : Fixed) (image : Image) (scan : Option Scan) → IsFixedScan fixed image scan → IsScanOf image scan
scan_is fixed image None is = tt
scan_is fixed image (Some scan) is = is.1
