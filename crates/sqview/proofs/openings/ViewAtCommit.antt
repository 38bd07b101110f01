-- The view at a commit.
use Rattle.std.proofs.Common.{◌≡◌, ◌≢◌, ◌⊎◌, inl, inr, ⊎_elim, ℕ, suc, ◌*◌, ◌<◌, ◌≤◌, List, [], length, refl, sym, ◌∙◌, ap, subst, arith, drop, length-drop}
use Rattle.std.specs.Prelude.{Some, None, Result, Ok, Err}
use Rattle.std.proofs.lemmas.List.{length-take}
use Rattle.sqval.specs.Database.{Database}
use Rattle.sqval.specs.Limits.{Bounds, usual}
use Rattle.sqwal.specs.Header.{IsHeader, named_size}
use Rattle.sqwal.specs.Frames.{size_of, IsValidFrame, IsCommit}
use Rattle.sqwal.specs.View.{IsView}
use Rattle.sqwal.proofs.log.UniquenessOfView.{front_unique}
use Rattle.sqjournal.specs.Journal.{IsHot}
use Rattle.sqpage.specs.declared.fault.Fault.TheVariants as faults
use Rattle.sqview.specs.At.{IsCommitAt, ViewsAt, IsTooLongAtWithin, IsAboveAtWithin, AtRefusedWithin, AtAnswerWithin}
use Rattle.sqview.specs.LogView.{IsLogged, IsAlone, IsTooLongWithin, IsAboveWithin, Views, pages_of, ViewAnswerWithin}
use Rattle.sqview.specs.Places.{most_kept}
use Rattle.sqview.specs.Logs.{AreTwoLogs, CountsAnswer}
use Rattle.sqview.specs.Origins.{AreFramePlaces}
use Rattle.sqview.specs.internal.ViewParts.{ScannedAnswer, PlacedAnswer, CommitFound}
use Rattle.sqview.specs.declared.logs.LogInUse.{LogInUse}
use Rattle.sqview.specs.declared.logs.LogInUse.TheVariants as logs
use Rattle.sqview.specs.declared.view.View.{View}
use Rattle.sqview.specs.declared.view.at_commit.Commit.{Commit}
use Rattle.sqview.specs.declared.view_error.ViewError.{ViewError}
use Rattle.sqview.specs.declared.view_error.ViewError.TheVariants.{TwoLogs, TooLarge, Header, NoMemory, NoSuchCommit}
use Rattle.sqview.proofs.openings.ShownOrRefusedView.{alone_bare}

-- a log without a valid header has no valid frame
bare_frame : (w : List ℕ) (i : ℕ) → ¬ IsHeader (named_size w) w → ¬ IsValidFrame (named_size w) w i
bare_frame w i bare valid = bare (valid.each i valid.first (omega arith)).header

no_header : (w : List ℕ) → w ≡ [] → ¬ IsHeader (named_size w) w
no_header w none header = omega (arith, header.whole, ap length none)

cold_nothing : ¬ IsHot []
cold_nothing hot = let nothing : List ℕ = [] in omega (arith, ap length hot.first.magic, length-take 8 (drop 0 nothing), length-drop 0 nothing)

-- ---- A frame of a log beside no hot journal.

module _ (limits : Bounds) (db wal journal : List ℕ) (cold : ¬ IsHot journal) (m : ℕ) (one : 1 ≤ m) where
  cold_one : ¬ AreTwoLogs wal journal
  cold_one two = cold two.0

  pub at_scan_refused : (e : ViewError) → ScannedAnswer limits.frames wal (Err e) → AtRefusedWithin limits m db wal journal e
  at_scan_refused TooLarge long = (cold_one, inl (one, cold, long))
  at_scan_refused NoMemory long = tt
  at_scan_refused _ long = absurd long

  module _ (few : ¬ IsValidFrame (named_size wal) wal (suc limits.frames)) where
    at_short : ¬ IsTooLongAtWithin limits m wal journal
    at_short long = few long.2

    pub at_none : CommitFound wal m None → AtRefusedWithin limits m db wal journal NoSuchCommit
    at_none none = (cold_one, at_short, one, λ is. none (is.valid, is.commit))

    module _ (it : Commit) (found : CommitFound wal m (Some it)) where
      here : IsCommitAt wal journal m
      here = record { cold = cold; valid = found.1; commit = found.2 }

      named : named_size wal ≡ it.page_size
      named = found.0.named

      count_is : it.size ≡ size_of it.page_size wal m
      count_is = found.3 ∙ ap (λ n. size_of n wal m) named

      at_within : it.size * it.page_size ≤ limits.bytes → ¬ IsAboveAtWithin limits m db wal journal
      at_within le above = ⊎_elim
          (λ own. omega (arith, own.0))
          (λ x. let e : above.0 ≡ it.page_size = x.1 ∙ named in
          let g : above.1 ≡ it.size = x.2 ∙ ap (λ n. size_of n wal m) e ∙ sym count_is in
          let more : limits.bytes < it.size * it.page_size = subst (λ (n : ℕ). limits.bytes < n * it.page_size) g (subst (λ (n : ℕ). limits.bytes < above.1 * n) e above.3) in omega arith)
          above.2

      pub placed_at : {F : Type 0} (bytes : F → List ℕ) (q : Result (View F) ViewError) → PlacedAnswer limits.bytes bytes it.page_size m it.size db wal q → AtAnswerWithin limits bytes m db wal journal q
      placed_at bytes (Ok v) placed = record {
        shows = inr (here, placed.0 ∙ sym named, subst (λ (n : ℕ). IsView n db wal m (pages_of bytes v)) (sym placed.0) placed.3);
        stands = placed.1;
        one = cold_one;
        short = at_short;
        within = at_within placed.2.1;
        headed = λ zero. absurd (omega arith);
        unplaced = λ zero. absurd (omega arith);
        placed = λ some. placed.4.long;
        framed = λ some. subst (λ (n : ℕ). AreFramePlaces n wal m v.count v.places.items) (sym placed.0) placed.4;
        few = subst (λ (n : ℕ). v.places.kept ≤ most_kept n (bytes v.log)) (sym placed.0) placed.5;
      }
      placed_at bytes (Err NoMemory) placed = tt
      placed_at bytes (Err TooLarge) more = (cold_one, inr (at_short, (it.page_size, it.size, inr (here, sym named, count_is), more)))
      placed_at bytes (Err e) placed = absurd placed

  pub at_bare : ¬ IsHeader (named_size wal) wal → AtRefusedWithin limits m db wal journal NoSuchCommit
  at_bare bare = at_none (bare_frame wal (suc limits.frames) bare) (λ is. bare_frame wal m bare is.0)

-- ---- Frame 0.

pub bare : (limits : Bounds) (db : List ℕ) → (¬ IsTooLongWithin limits [] []) × IsAlone [] []
bare limits db = alone_bare limits db [] [] cold_nothing (no_header [] refl)

no_front : (n : ℕ) → ¬ IsLogged [] [] n
no_front n logged = omega (arith, logged.some, front_unique (named_size []) [] n 0 logged.is (bare usual []).1.none)

module _ (limits : Bounds) (db wal journal : List ℕ) (one : ¬ AreTwoLogs wal journal) (m : ℕ) (zero : m ≡ 0) where
  short : ¬ IsTooLongAtWithin limits m wal journal
  short long = omega (arith, long.0)

  above_alone : IsAboveAtWithin limits m db wal journal → IsAboveWithin limits db [] []
  above_alone above = ⊎_elim
      (λ own. (above.0, above.1, inr (inr ((bare limits db).1, own.1, own.2, own.3)), above.3))
      (λ x. absurd (omega (arith, x.0.valid.first)))
      above.2

  above_here : IsAboveWithin limits db [] [] → IsAboveAtWithin limits m db wal journal
  above_here above = ⊎_elim
      (λ hot. absurd (cold_nothing hot.0))
      (⊎_elim (λ logged. absurd (no_front logged.0 logged.1)) (λ own. (above.0, above.1, inl (zero, own.1, own.2, own.3), above.3)))
      above.2

  -- the file's own view is the one at frame 0
  pub own_at : {F : Type 0} (bytes : F → List ℕ) (q : Result (View F) ViewError) → ViewAnswerWithin limits bytes db [] [] q → AtAnswerWithin limits bytes m db wal journal q
  own_at bytes (Ok v) shown = record {
    shows = inl (zero, ⊎_elim (λ hot. absurd (cold_nothing hot.0)) (⊎_elim (λ logged. absurd (no_front logged.0 logged.1)) (λ own. own.1)) shown.shows, one);
    stands = ⊎_elim (λ logged. absurd (no_front v.front logged)) (λ none. none.0) shown.stands ∙ sym zero;
    one = one;
    short = short;
    within = λ above. shown.within (above_alone above);
    headed = λ _. shown.headed (bare limits db).1;
    unplaced = λ _. shown.unplaced (bare limits db).1;
    placed = λ some. absurd (omega arith);
    framed = λ some. absurd (omega arith);
    few = shown.few;
  }
  own_at bytes (Err TwoLogs) two = absurd (two.1 refl)
  own_at bytes (Err TooLarge) large = (one, inr (short, above_here (⊎_elim (λ long. absurd ((bare limits db).0 long)) (λ above. above.1) large.1)))
  own_at bytes (Err NoMemory) none = tt
  own_at bytes (Err (Header faults.Magic)) bad = (zero, one, λ above. bad.1 (above_alone above), bad.3)
  own_at bytes (Err (Header faults.PageSize)) bad = (zero, one, λ above. bad.1 (above_alone above), bad.3, bad.4)
  own_at bytes (Err (Header _)) bad = absurd bad
  own_at bytes (Err _) bad = absurd bad

-- ---- The log that counts.

module _ (limits : Bounds) (db wal journal : List ℕ) (m : ℕ) where
  pub counts_refused : (e : ViewError) → CountsAnswer wal journal (Err e) → AtRefusedWithin limits m db wal journal e
  counts_refused TwoLogs two = two
  counts_refused _ bad = absurd bad

  pub counts_one : (l : LogInUse) → CountsAnswer wal journal (Ok l) → ¬ AreTwoLogs wal journal
  counts_one logs.Neither counts two = two.1 counts.1
  counts_one logs.Wal counts two = counts.0 two.0
  counts_one (logs.Journal header) counts two = two.1 counts.2

  pub counts_none : (l : LogInUse) → CountsAnswer wal journal (Ok l) → l ≢ logs.Wal → 1 ≤ m → AtRefusedWithin limits m db wal journal NoSuchCommit
  counts_none logs.Neither counts other one =
      (λ two. two.1 counts.1, λ long. bare_frame wal (suc limits.frames) (no_header wal counts.1) long.2, one, λ is. bare_frame wal m (no_header wal counts.1) is.valid)
  counts_none logs.Wal counts other one = absurd (other refl)
  counts_none (logs.Journal header) counts other one = (λ two. two.1 counts.2, λ long. long.1 counts.0, one, λ is. is.cold counts.0)

-- ---- At the front.

module _ (front size : ℕ) (db wal journal : List ℕ) (d : Database) where
  pub front_to : IsLogged wal journal front → ViewsAt front size db wal journal d → Views size db wal journal d
  front_to logged views = ⊎_elim
      (λ own. absurd (omega (arith, own.0, logged.some)))
      (λ at. inr (inl (front, logged, at.1, at.2)))
      views

  pub front_from : IsLogged wal journal front → Views size db wal journal d → ViewsAt front size db wal journal d
  front_from logged views = ⊎_elim
      (λ hot. absurd (logged.cold hot.0))
      (⊎_elim
      (λ x. let same : x.0 ≡ front = front_unique (named_size wal) wal x.0 front x.1.is logged.is in
      inr (is_commit logged.is.is, x.2, subst (λ (n : ℕ). IsView size db wal n d) same x.3))
      (λ own. absurd (omega (arith, logged.some, front_unique (named_size wal) wal front 0 logged.is own.0.none))))
      views
    where
      is_commit : (front ≡ 0) ⊎ (IsValidFrame (named_size wal) wal front × IsCommit (named_size wal) wal front) → IsCommitAt wal journal front
      is_commit is = ⊎_elim (λ none. absurd (omega (arith, logged.some))) (λ v. record { cold = logged.cold; valid = v.0; commit = v.1 }) is

  pub alone_to : IsAlone wal journal → ViewsAt 0 size db wal journal d → Views size db wal journal d
  alone_to alone views = ⊎_elim (λ own. inr (inr (alone, own.1))) (λ at. absurd (omega (arith, at.0.valid.first))) views

  pub alone_from : IsAlone wal journal → Views size db wal journal d → ViewsAt 0 size db wal journal d
  alone_from alone views = ⊎_elim
      (λ hot. absurd (alone.cold hot.0))
      (⊎_elim
      (λ x. absurd (omega (arith, x.1.some, front_unique (named_size wal) wal x.0 0 x.1.is alone.none)))
      (λ own. inl (refl, own.1, λ two. alone.cold two.0)))
      views
