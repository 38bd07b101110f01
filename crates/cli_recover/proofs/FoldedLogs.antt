-- What a recovery does of a log, by its header, its scan and the size of its pages.
use Rattle.std.proofs.Common.{◌≡◌, ◌≢◌, ◌⊎◌, inl, ⊎_elim, ℕ, ◌≤◌, Bool, true, false, not, nat_eq, IsTrue, ◌↔◌, List, [], ◌∷◌, length, take, drop, Option, None, Some, IsSome, IfSome, refl, sym, ◌∙◌, ap, subst, arith}
use Rattle.std.proofs.lemmas.List.{length-take-le, take-append-drop}
use Rattle.std.specs.Prelude.{IsSomeAnd, Result, Ok, Err}
use Rattle.std.proofs.lemmas.Bool.Decides.{nat_tests}
use Rattle.sqval.specs.Limits.{Bounds}
use Rattle.sqwal.specs.Answers.{EntryFound, IsCommittedWithin, LogRefused}
use Rattle.sqwal.specs.Frames.{IsFront}
use Rattle.sqwal.specs.Header.{named_size, IsHeader, IsHeaderOf, HeaderRefused, HeaderAnswer}
use Rattle.sqwal.specs.Refusal.{most_frames}
use Rattle.sqwal.specs.Took.{TookWithin}
use Rattle.sqwal.specs.declared.header.WalHeader.{WalHeader}
use Rattle.sqwal.specs.declared.scan.Entry.{Entry}
use Rattle.sqwal.specs.declared.scan.Front.{Front}
use Rattle.sqwal.specs.declared.scan.Scan.{Scan}
use Rattle.sqwal.specs.declared.error.WalFormatError.{WalFormatError}
use Rattle.sqwal.specs.declared.error.WalFormatError.TheVariants.{NotAWal, PageSize, HeaderSum, UnknownVersion, TooLong, NoMemory}
use Rattle.sqwal.proofs.feed.ScanUnderMoreBytes.{header-more, header_refused-more}
use Rattle.sqview.specs.Laid.{part_or_zeros}
use Rattle.sqview.proofs.file.FileHeads.{part_is}
use Rattle.cli_facts.specs.declared.outcome.Refusal.{Refusal}
use Rattle.cli_facts.specs.declared.outcome.Refusal.TheVariants as refusals
use Rattle.cli_show.specs.Logs.{ScanFound}
use Rattle.cli_recover.specs.internal.Scans.{FoldsByFront, FoldsBySize, ScansTo}
use Rattle.cli_recover.specs.Plans.{HasOtherSize, IsCommitOf, IsUnplanned, PlansFold}
use Rattle.cli_recover.specs.declared.plans.Recovery.{Recovery}
use Rattle.cli_recover.specs.declared.plans.Recovery.TheVariants.{Nothing, Empty, Fold, RollBack}

-- ---- the header

header_of_taken : (w : List ℕ) (r : Result WalHeader WalFormatError) → 32 ≤ length w → HeaderAnswer (take 32 w) r → HeaderAnswer w r
header_of_taken w (Ok h) long is = subst (λ (x : List ℕ). IsHeaderOf x h) (take-append-drop 32 w) (header-more (take 32 w) (drop 32 w) h is)
header_of_taken w (Err e) long is = by e is
  where
    head : 32 ≤ length (take 32 w)
    head = omega (arith, length-take-le 32 w long)

    from : (e : WalFormatError) → HeaderRefused (take 32 w) e → LogRefused w e
    from e is = subst (λ (x : List ℕ). LogRefused x e) (take-append-drop 32 w) (header_refused-more most_frames (take 32 w) (drop 32 w) e head is)

    by : (e : WalFormatError) → HeaderRefused (take 32 w) e → HeaderRefused w e
    by NotAWal is = (from NotAWal is).1
    by PageSize is = (from PageSize is).1
    by HeaderSum is = (from HeaderSum is).1
    by UnknownVersion is = (from UnknownVersion is).1
    by TooLong is = absurd is
    by NoMemory is = absurd is

from_start : (w : List ℕ) → drop 0 w ≡ w
from_start [] = refl
from_start (x ∷ w) = refl

-- what the first 32 bytes say, the log says
pub header_read : (wal head : List ℕ) (r : Result WalHeader WalFormatError) → 32 ≤ length wal → head ≡ part_or_zeros 32 0 wal → HeaderAnswer head r → HeaderAnswer wal r
header_read wal head r long is answer =
    let same : head ≡ take 32 wal = is ∙ part_is 32 0 wal (omega (arith, long)) ∙ ap (take 32) (from_start wal) in
    header_of_taken wal r long (subst (λ (x : List ℕ). HeaderAnswer x r) same answer)

-- ---- the scan

commit_header : (wal : List ℕ) (frame : ℕ) → IsCommitOf wal frame → IsHeader (named_size wal) wal
commit_header wal frame is = (is.0.each frame is.0.first (omega arith)).header

pub no_commit : (wal : List ℕ) (frame : ℕ) → (¬ IsHeader (named_size wal) wal) → ¬ IsCommitOf wal frame
no_commit wal frame none is = none (commit_header wal frame is)

pub commit_found : (wal : List ℕ) (frame : ℕ) (e : Entry) → EntryFound wal frame (Some e) → e.size ≢ 0 → IsCommitOf wal frame
commit_found wal frame e found size = (found.0, λ zero. size (found.2 ∙ zero))

pub commit_size : (wal : List ℕ) (frame : ℕ) (e : Entry) → EntryFound wal frame (Some e) → IsCommitOf wal frame → e.size ≢ 0
commit_size wal frame e found is zero = is.1 (sym found.2 ∙ zero)

pub front_none : (most : ℕ) (wal : List ℕ) (f : Front) → IsCommittedWithin most wal f → f.frames ≡ 0 → IsFront (named_size wal) wal 0
front_none most wal f committed none = subst (λ (n : ℕ). IsFront (named_size wal) wal n) none committed.front

pub front_commit : (most : ℕ) (wal : List ℕ) (f : Front) → IsCommittedWithin most wal f → f.frames ≢ 0 → (frame : ℕ) × IsCommitOf wal frame
front_commit most wal f committed some = (f.frames, ⊎_elim (λ zero. absurd (some zero)) (λ is. is) committed.front.is)

pub headless_front : (wal : List ℕ) → (¬ IsHeader (named_size wal) wal) → IsFront (named_size wal) wal 0
headless_front wal none = record { is = inl refl; greatest = λ i valid commit. absurd (no_commit wal i none (valid, commit)) }

-- ---- the plan

pub unscanned : (limits : Bounds) (at : Option ℕ) (db wal : List ℕ) (refusal : Refusal) → ScanFound limits wal (Err refusal) → IsUnplanned limits at db wal refusal
unscanned limits at db wal refusals.TooLarge h = h
unscanned limits at db wal refusals.NoMemory h = tt
unscanned limits at db wal _ h = absurd h

pub scan_refused : (limits : Bounds) (at : Option ℕ) (db wal : List ℕ) (refusal : Refusal) → ScansTo limits at wal (Err refusal) → IsUnplanned limits at db wal refusal
scan_refused limits at db wal refusal = ⊎_elim
    (λ none. subst (λ (r : Refusal). IsUnplanned limits at db wal r) (sym none.0) none.1)
    (unscanned limits at db wal refusal)

reached : (limits : Bounds) (at : Option ℕ) (wal : List ℕ) (scan found : Option Scan) → ScansTo limits at wal (Ok scan) → (found ≡ scan) ⊎ (scan ≡ None)
    → IfSome at (λ frame. IsSome found × IsCommitOf wal frame)
reached limits None wal scan found scans same = tt
reached limits (Some m) wal None found scans same = absurd (cc scans)
reached limits (Some m) wal (Some s) found scans same =
    ⊎_elim (λ e. (subst (λ (o : Option Scan). IsSome o) (sym e) here, scans.1)) (λ e. absurd (cc e)) same
  where
    here : IsSome (Some s)
    here = refl

module _ (limits : Bounds) (at : Option ℕ) (db wal : List ℕ) (size : ℕ) (scan : Option Scan) (differs : Bool) (header : IsHeader size wal)
    (scans : ScansTo limits at wal (Ok scan)) (sizes : IsTrue differs ↔ HasOtherSize db size) where
  differ : (refusal : Refusal) → (refusal ≡ refusals.PageSizesDiffer) × IsTrue differs × ((frame : ℕ) × IsCommitOf wal frame) → IsUnplanned limits at db wal refusal
  differ refusal is = subst (λ (r : Refusal). IsUnplanned limits at db wal r) (sym is.0)
      (subst (λ (n : ℕ). IsHeader n wal) (sym header.named) header, subst (λ (n : ℕ). HasOtherSize db n) (sym header.named) (sizes.0 is.1), is.2)

  pub fold_planned : (result : Result Recovery Refusal) → FoldsBySize limits wal size scan differs result → PlansFold limits at db wal result
  fold_planned (Ok (Fold folded found)) folds = (
    subst (λ (n : ℕ). IsHeader n wal) (sym folds.0) header,
    folds.1,
    reached limits at wal scan found scans folds.2,
    λ other. subst (λ (n : ℕ). IsFront n wal 0) (header.named ∙ sym folds.0) (folds.3 (sizes.1 (subst (λ (n : ℕ). HasOtherSize db n) folds.0 other))),
  )
  fold_planned (Ok Nothing) folds = absurd folds
  fold_planned (Ok Empty) folds = absurd folds
  fold_planned (Ok RollBack) folds = absurd folds
  fold_planned (Err refusal) folds = ⊎_elim (differ refusal) (unscanned limits at db wal refusal) folds

-- by the front of a log that was scanned, where the sizes differ
pub by_front : (limits : Bounds) (wal : List ℕ) (size : ℕ) (asked : Option Scan) (scan : Scan) (differs : Bool) (result : Result Recovery Refusal) → IsTrue differs
    → (Some scan ≡ asked) ⊎ (asked ≡ None) → TookWithin limits.frames wal scan → FoldsByFront wal size scan result → FoldsBySize limits wal size asked differs result
by_front limits wal size asked scan differs (Ok plan) differ which took folds =
    subst (λ (p : Recovery). FoldsBySize limits wal size asked differs (Ok p)) (sym folds.0) (refl, took, which, λ _. folds.1)
by_front limits wal size asked scan differs (Err refusal) differ which took folds = inl (folds.0, differ, folds.1)

pub nonzero : (n : ℕ) → IsTrue (not (nat_eq n 0)) ↔ (n ≢ 0)
nonzero n = (λ h. grind (arith, nat_tests), λ h. grind (arith, nat_tests))

-- the log is taken as scanned where none is asked for
pub as_scanned : (limits : Bounds) (at : Option ℕ) (wal : List ℕ) (scan : Option Scan) → ScansTo limits at wal (Ok scan) → IfSome scan (TookWithin limits.frames wal)
as_scanned limits at wal None scans = tt
as_scanned limits at wal (Some s) scans = scans.0

pub plans_by_scan : (limits : Bounds) (wal : List ℕ) (size : ℕ) (asked : Option Scan) (scan : Scan) (differs : Bool) (result : Result Recovery Refusal) → IsTrue differs
    → asked ≡ Some scan → IfSome asked (TookWithin limits.frames wal) → ((most : ℕ) (w : List ℕ) → TookWithin most w scan → FoldsByFront w size scan result)
    → FoldsBySize limits wal size asked differs result
plans_by_scan limits wal size asked scan differs result differ is took folds =
    let took_scan : TookWithin limits.frames wal scan = subst (λ (o : Option Scan). IfSome o (TookWithin limits.frames wal)) is took in
    by_front limits wal size asked scan differs result differ (inl (sym is)) took_scan (folds limits.frames wal took_scan)

-- whether the commit that is asked for is there
pub not_there : (wal : List ℕ) (at : Option ℕ) (frame : ℕ) (found : Bool) → at ≡ Some frame → IsTrue found ↔ IsCommitOf wal frame → found ≡ false → IsSomeAnd at (λ f. ¬ IsCommitOf wal f)
not_there wal at frame found is by_frame none =
    subst (λ (o : Option ℕ). IsSomeAnd o (λ f. ¬ IsCommitOf wal f)) (sym is) (λ commit. let there : found ≡ true = by_frame.1 commit in cc)

pub is_there : (wal : List ℕ) (at : Option ℕ) (frame : ℕ) (found : Bool) → at ≡ Some frame → IsTrue found ↔ IsCommitOf wal frame → found ≡ true → IsSomeAnd at (λ f. IsCommitOf wal f)
is_there wal at frame found is by_frame there = subst (λ (o : Option ℕ). IsSomeAnd o (λ f. IsCommitOf wal f)) (sym is) (by_frame.0 there)

pub plan_of_parts : (limits named : Bounds) (at : Option ℕ) (db wal first second : List ℕ) (size : ℕ) (scan : Option Scan) (differs : Bool) (result : Result Recovery Refusal)
    → limits ≡ named → first ≡ wal → second ≡ first → IsHeader size wal → ScansTo limits at first (Ok scan) → IsTrue differs ↔ HasOtherSize db size
    → (IfSome scan (TookWithin limits.frames second) → FoldsBySize limits second size scan differs result) → PlansFold named at db wal result
plan_of_parts limits named at db wal first second size scan differs result are by_first by_second header scans sizes folds =
    let took : IfSome scan (TookWithin limits.frames second) =
    subst (λ (w : List ℕ). IfSome scan (TookWithin limits.frames w)) (sym by_second) (as_scanned limits at first scan scans) in
    subst (λ (l : Bounds). PlansFold l at db wal result) are
    (fold_planned limits at db wal size scan differs header (subst (λ (w : List ℕ). ScansTo limits at w (Ok scan)) by_first scans) sizes result
    (subst (λ (w : List ℕ). FoldsBySize limits w size scan differs result) (by_second ∙ by_first) (folds took)))
