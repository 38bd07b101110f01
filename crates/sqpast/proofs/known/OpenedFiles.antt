-- The files of which no log counts, and what a view of them refuses.
use Rattle.std.proofs.Common.{◌≡◌, ◌≢◌, ◌⊎◌, inl, inr, ⊎_elim, ℕ, suc, ◌/◌, ◌*◌, ◌<◌, ◌≤◌, true, false, List, [], length, refl, sym, ◌∙◌, ap, subst, arith}
use Rattle.std.specs.Prelude.{Option, None, Result, Ok, Err, IsErr}
use Rattle.std.proofs.lemmas.Bool.{cases_lt}
use Rattle.std.specs.Result.{IsErrAnd}
use Rattle.sqval.specs.Database.{Database}
use Rattle.sqval.specs.Limits.{Bounds}
use Rattle.std.proofs.Math.Nat.{mul-le-mul_left, le-div_iff_mul-le}
use Rattle.sqval.proofs.page.FilePages.{size_some}
use Rattle.sqwal.specs.Header.{named_size, IsHeader}
use Rattle.sqwal.specs.Frames.{size_of, IsValidFrame, IsCommit, IsFront}
use Rattle.sqwal.specs.View.{IsView}
use Rattle.sqwal.proofs.log.UniquenessOfView.{front_unique}
use Rattle.sqjournal.specs.Journal.{IsHot}
use Rattle.sqpage.specs.declared.fault.Fault.TheVariants as faults
use Rattle.sqview.specs.At.{AtRefusedWithin, IsShownAtWithin}
use Rattle.sqview.specs.LogView.{IsLogged, Views}
use Rattle.sqview.specs.Logs.{IsRead, CountsAnswer}
use Rattle.sqview.specs.declared.logs.LogInUse.{LogInUse}
use Rattle.sqview.specs.declared.logs.LogInUse.TheVariants as logs
use Rattle.sqview.specs.declared.view.View.{View}
use Rattle.sqview.specs.declared.view_error.ViewError.{ViewError}
use Rattle.sqview.specs.declared.view_error.ViewError.TheVariants.{TwoLogs, TooLarge, Header, Unread, NoMemory, NoSuchCommit}
use Rattle.sqpast.specs.Files.{PastViews, PastRefusedWithin, IsPastShownWithin, PastAnswerWithin, IsPastRead}
use Rattle.sqwal.specs.declared.scan.Scan.{Scan}
use Rattle.sqpast.specs.internal.Opening.{PastScanned, HasNoLog}
use Rattle.sqpast.specs.declared.past_error.PastError.{PastError}
use Rattle.sqpast.specs.declared.past_error.PastError.TheVariants.{Refused}

-- ---- what a `?` gives on

pub refused_as : (limits : Bounds) (m : ℕ) (db wal journal : List ℕ) (e : ViewError) → AtRefusedWithin limits m db wal journal e → PastRefusedWithin limits m db wal journal (Refused e)
refused_as limits m db wal journal TwoLogs is = is
refused_as limits m db wal journal TooLarge is = inl is
refused_as limits m db wal journal NoSuchCommit is = is
refused_as limits m db wal journal (Header faults.Magic) is = is
refused_as limits m db wal journal (Header faults.PageSize) is = inl is
refused_as limits m db wal journal (Header _) is = is
refused_as limits m db wal journal Unread is = is
refused_as limits m db wal journal NoMemory is = is

pub refused_answer : {F : Type 0} (limits : Bounds) (bytes : F → List ℕ) (m : ℕ) (db wal journal : List ℕ) (r : Result (View F) PastError) (e : ViewError) → IsErr r × IsErrAnd r (λ x. x ≡ Refused e)
    → PastRefusedWithin limits m db wal journal (Refused e) → PastAnswerWithin limits bytes m db wal journal r
refused_answer limits bytes m db wal journal (Ok v) e is why = let bad : false ≡ true = is.0 in cc
refused_answer limits bytes m db wal journal (Err x) e is why = subst (λ (y : PastError). PastRefusedWithin limits m db wal journal y) (sym is.1) why

read_as : (A B : Type 0) (e : ViewError) → IsPastRead {A = A} (Err (Refused e)) → IsRead {A = B} (Err e)
read_as A B Unread ok = ok
read_as A B TwoLogs ok = tt
read_as A B TooLarge ok = tt
read_as A B (Header _) ok = tt
read_as A B NoMemory ok = tt
read_as A B NoSuchCommit ok = tt

-- what was given on was read
pub read_before : {A : Type 0} (r : Result A PastError) (e : ViewError) → IsErr r × IsErrAnd r (λ x. x ≡ Refused e) → IsPastRead r → IsRead {A = A} (Err e)
read_before {A = A} (Ok v) e is ok = let bad : false ≡ true = is.0 in cc
read_before {A = A} (Err x) e is ok = read_as A A e (subst (λ (y : PastError). IsPastRead {A = A} (Err y)) is.1 ok)

as_read : (A B : Type 0) (e : ViewError) → IsRead {A = B} (Err e) → IsPastRead {A = A} (Err (Refused e))
as_read A B Unread ok = ok
as_read A B TwoLogs ok = tt
as_read A B TooLarge ok = tt
as_read A B (Header _) ok = tt
as_read A B NoMemory ok = tt
as_read A B NoSuchCommit ok = tt

pub read_after : {A : Type 0} (r : Result A PastError) (e : ViewError) → IsErr r × IsErrAnd r (λ x. x ≡ Refused e) → IsRead {A = A} (Err e) → IsPastRead r
read_after {A = A} (Ok v) e is ok = let bad : false ≡ true = is.0 in cc
read_after {A = A} (Err x) e is ok = subst (λ (y : PastError). IsPastRead {A = A} (Err y)) (sym is.1) (as_read A A e ok)

-- ---- no log counts

pub bare_frame : (w : List ℕ) (i : ℕ) → ¬ IsHeader (named_size w) w → ¬ IsValidFrame (named_size w) w i
bare_frame w i bare valid = bare (valid.each i valid.first (omega arith)).header

pub no_header : (w : List ℕ) → w ≡ [] → ¬ IsHeader (named_size w) w
no_header w none header = omega (arith, header.whole, ap length none)

pub no_front : (w : List ℕ) → ¬ IsHeader (named_size w) w → IsFront (named_size w) w 0
no_front w bare = record { is = inl refl; greatest = λ i valid commit. absurd (bare_frame w i bare valid) }

module _ {F : Type 0} (limits : Bounds) (bytes : F → List ℕ) (m : ℕ) (db wal journal : List ℕ) where
  -- the view of the file alone
  pub alone_shown : HasNoLog limits m wal journal → (v : View F) → IsShownAtWithin limits bytes m db wal journal v → IsPastShownWithin limits bytes m db wal journal v
  alone_shown bare v shown = record {
    shows = ⊎_elim (λ own. inl (own.0, own.1, bare.without)) (λ at. absurd (bare.none at.0.valid.first at.0)) shown.shows;
    stands = shown.stands;
    one = shown.one;
    short = bare.short;
    within = shown.within;
    headed = shown.headed;
    unplaced = shown.unplaced;
    placed = shown.placed;
    framed = shown.framed;
  }

  -- a log without a header
  pub bare_log : (¬ IsHot journal) → (¬ IsHeader (named_size wal) wal) → HasNoLog limits m wal journal
  bare_log cold bare = record {
    without = inl (record { cold = cold; none = no_front wal bare });
    short = λ long. bare_frame wal (suc limits.frames) bare long.1;
    none = λ one at. bare_frame wal m bare at.valid;
  }

  -- no log, or a hot journal
  pub other_log : (l : LogInUse) → CountsAnswer wal journal (Ok l) → l ≢ logs.Wal → HasNoLog limits m wal journal
  other_log logs.Neither counts other = bare_log counts.0 (no_header wal counts.1)
  other_log logs.Wal counts other = absurd (other refl)
  other_log (logs.Journal header) counts other = record {
    without = inr (counts.0, λ two. two.1 counts.2);
    short = λ long. long.0 counts.0;
    none = λ one at. at.cold counts.0;
  }

-- ---- at the front

module _ (front size : ℕ) (db wal journal : List ℕ) (d : Database) where
  pub front_to : IsLogged wal journal front → PastViews front size db wal journal d → Views size db wal journal d
  front_to logged views = ⊎_elim
      (λ own. ⊎_elim
      (λ alone. absurd (omega (arith, logged.some, front_unique (named_size wal) wal front 0 logged.is alone.none)))
      (λ hot. absurd (logged.cold hot.0))
      own.2)
      (λ x. ⊎_elim
      (λ at. inr (inl (front, logged, x.3, at.1)))
      (λ early. absurd (omega (arith, early.0, front_unique (named_size wal) wal x.0 front x.1.is logged.is)))
      x.4)
      views

  pub front_from : IsLogged wal journal front → Views size db wal journal d → PastViews front size db wal journal d
  front_from logged views = ⊎_elim
      (λ hot. absurd (logged.cold hot.0))
      (⊎_elim
      (λ x. let same : x.0 ≡ front = front_unique (named_size wal) wal x.0 front x.1.is logged.is in
      inr (front, logged, inr (subst (λ (n : ℕ). IsCommit n wal front) (sym x.2) (is_commit logged.is.is)), x.2, inl (refl, subst (λ (n : ℕ). IsView size db wal n d) same x.3)))
      (λ own. absurd (omega (arith, logged.some, front_unique (named_size wal) wal front 0 logged.is own.0.none))))
      views
    where
      is_commit : (front ≡ 0) ⊎ (IsValidFrame (named_size wal) wal front × IsCommit (named_size wal) wal front) → IsCommit (named_size wal) wal front
      is_commit is = ⊎_elim (λ none. absurd (omega (arith, logged.some))) (λ v. v.1) is

-- ---- a commit of too many pages

pub above_refused : (limits : Bounds) (m : ℕ) (db w journal : List ℕ) → (¬ IsHot journal) → IsValidFrame (named_size w) w m → (¬ IsValidFrame (named_size w) w (suc limits.frames)) → (count : ℕ) → count ≡ size_of (named_size w) w m
    → limits.bytes < count * 512 → PastRefusedWithin limits m db w journal (Refused TooLarge)
above_refused limits m db w journal cold valid few count is more =
    let size = named_size w in
    let some : 512 ≤ size = size_some size (valid.each m valid.first (omega arith)).header.is_size in
    let up : count * 512 ≤ count * size = mul-le-mul_left count some in
    let nz : size_of size w m ≢ 0 = λ z. let none : count * 512 ≡ 0 * 512 = ap (λ n. n * 512) (is ∙ z) in omega (arith, more, none) in
    inl (
      λ two. cold two.0,
      inr (λ long. few long.2, (size, count, inr (record { cold = cold; valid = valid; commit = nz }, refl, is), omega arith)),
    )

pub above_by_div : (k x y : ℕ) → 0 < k → y / k < x → y < x * k
above_by_div k x y pos lt = ⊎_elim (λ l. l) (λ ge. absurd (let le : x ≤ y / k = (le-div_iff_mul-le pos).1 ge in omega arith)) (cases_lt y (x * k))

-- ---- a log without a header, as it was scanned

pub scanned_none : (most : ℕ) (w : List ℕ) (o : Option Scan) → o ≡ None → PastScanned most w (Ok o) → ¬ IsHeader (named_size w) w
scanned_none most w o is answer = subst (λ (x : Option Scan). PastScanned most w (Ok x)) is answer
