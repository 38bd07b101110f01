-- Of each commit of a log: whether the database there is known.
use Rattle.std.proofs.Common.{◌≡◌, ◌≢◌, ◌⊎◌, inl, inr, ⊎_elim, ℕ, zero, suc, ◌+◌, ◌-◌, ◌<◌, ◌≤◌, cond, min, Bool, true, false, List, [], length, get_or, refl, sym, ◌∙◌, ap, subst, arith, eq-eqb, ne_eqb}
use Rattle.std.specs.Prelude.{◌==◌, ◌↔◌, IsTrue}
use Rattle.std.proofs.lemmas.Bool.{cases_eq, cases_lt}
use Rattle.sqval.specs.Bytes.{AreBytes}
use Rattle.sqval.specs.Database.{Database, file_page}
use Rattle.sqval.specs.PageSize.{IsPageSize}
use Rattle.sqval.proofs.page.FilePages.{size_some}
use Rattle.sqwal.specs.Frames.{page_of, size_of, content_of, frame_at, frame_end, IsCommit}
use Rattle.sqwal.specs.View.{Unnamed, IsLast, IsOver, IsView}
use Rattle.sqwal.proofs.log.UniquenessOfView.{named_or_not}
use Rattle.history.specs.Past.{valid_count, used, IsOverFile, IsPast, IsUnknown}
use Rattle.history.specs.Table.{AreUntil, AreThere}
use Rattle.history.proofs.PaddedPages.{built, length_built, page_built}
use Rattle.history.proofs.PagesKept.{known_at}
use Rattle.history.proofs.PagesLost.{lost_unknown}
use Rattle.sqpast.specs.Past.{ShowsAt}
use Rattle.sqview.specs.Laid.{part_or_zeros}
use Rattle.sqpast.specs.Commits.{AreKnown}
use Rattle.sqpast.specs.internal.Commits.{IsThereUpTo, IsFirstCount, IsCountAfter, IsKnownBy}
use Rattle.sqpast.proofs.known.BytesInPieces.{content_is}
use Rattle.sqpast.proofs.known.BeforeCommits.{count_in_100}
use Rattle.sqpast.proofs.known.KnownViews.{used_low}

-- ---- the frames 1 to m over the file

module _ (size : ℕ) (w : List ℕ) (file : List ℕ) (m : ℕ) where
  pub page_at : ℕ → List ℕ
  page_at p = ⊎_elim (λ free. file_page size file p) (λ x. content_of size w x.0) (named_or_not size w m p)

  last_same : (p i j : ℕ) → IsLast size w m p i → IsLast size w m p j → i ≡ j
  last_same p i j a b = ⊎_elim
      (λ lt. absurd (a.last j lt b.within b.names))
      (λ ge. ⊎_elim (λ lt. absurd (b.last i lt a.within a.names)) (λ le. omega arith) (cases_lt j i))
      (cases_lt i j)

  logged_by : (p i : ℕ) → IsLast size w m p i → (x : Unnamed size w m p ⊎ ((k : ℕ) × IsLast size w m p k)) → ⊎_elim (λ free. file_page size file p) (λ y. content_of size w y.0) x ≡ content_of size w i
  logged_by p i last (inl free) = absurd (free i last.first last.within last.names)
  logged_by p i last (inr y) = ap (content_of size w) (last_same p y.0 i y.1 last)

  free_by : (p : ℕ) → Unnamed size w m p → (x : Unnamed size w m p ⊎ ((k : ℕ) × IsLast size w m p k)) → ⊎_elim (λ free. file_page size file p) (λ y. content_of size w y.0) x ≡ file_page size file p
  free_by p free (inl _) = refl
  free_by p free (inr y) = absurd (free y.0 y.1.first y.1.within y.1.names)

  page_logged : (p i : ℕ) → IsLast size w m p i → page_at p ≡ content_of size w i
  unfolding page_at
  page_logged p i last = logged_by p i last (named_or_not size w m p)

  page_free : (p : ℕ) → Unnamed size w m p → page_at p ≡ file_page size file p
  unfolding page_at
  page_free p free = free_by p free (named_or_not size w m p)

  over_at : (n : ℕ) → IsOver size (file_page size file) w m (built page_at n)
  over_at n = record {
    logged = λ p i one le last. page_built page_at n p one (omega (arith, length_built page_at n)) ∙ page_logged p i last;
    other = λ p one le free. page_built page_at n p one (omega (arith, length_built page_at n)) ∙ page_free p free;
  }

  pub view_at : 1 ≤ m → IsView size file w m (built page_at (size_of size w m))
  view_at one = record {
    none = λ none. absurd (omega arith);
    some = λ _. length_built page_at (size_of size w m);
    over = over_at (size_of size w m);
  }

  first_at : (c : ℕ) → IsFirstCount size w file m c → c ≡ valid_count (page_at 1)
  first_at c is = ⊎_elim
      (λ free. free.1 ∙ ap valid_count (sym (page_free 1 free.0)))
      (λ x. x.2 ∙ ap valid_count (sym (page_logged 1 x.0 x.1)))
      is

  module _ (one : 1 ≤ m) (commit : IsCommit size w m) (c count : ℕ) (first : IsFirstCount size w file m c) (is : count ≡ cond (c == 0) (size_of size w m) (min c (size_of size w m))) where
    abbrev most : ℕ
    most = size_of size w m

    used_is : count ≡ used most (page_at 1)
    used_is = is ∙ ap (λ v. cond (v == 0) most (min v most)) (first_at c first)

    pub some : 1 ≤ count
    some = let pos : 1 ≤ most = omega (arith, commit) in omega (arith, used_low most (page_at 1) pos, used_is)

    here : IsOverFile size w m file (built page_at count)
    here = record {
      start = λ none. absurd (omega arith);
      some = λ _. length_built page_at count ∙ used_is ∙ ap (used most) (sym (page_built page_at count 1 (omega arith) some));
      over = over_at count;
    }

    module _ (front : ℕ) (before : m < front) (is_size : IsPageSize size) (until : List ℕ) (are : AreUntil size w front file until) (fits : count ≤ length until) where
      pub past_known : AreThere until m count → IsPast size w front file m (built page_at count)
      past_known all files was = known_at size w front file (let s = size_some size is_size in omega arith) files was m (built page_at count) here (record {
        pages = λ p from to gone. let within : p ≤ count = omega (arith, length_built page_at count) in
            omega (arith, (are.each m p before from (omega arith)).0 gone, all p from within);
        length_kept = λ short_file. absurd (omega (arith, short_file.0));
      })

      pub past_lost : AreBytes file → ((p : ℕ) × (1 ≤ p) × (p ≤ count) × (m < get_or until (p - 1) 0)) → IsUnknown size w front file m
      past_lost bytes x = lost_unknown size w front file m (built page_at count) is_size bytes (inr commit) here
          (inl (x.0, x.1, omega (arith, x.2, length_built page_at count), (are.each m x.0 before x.1 (omega (arith, x.2))).1 x.3))

-- ---- a page that is gone, if they aren't all there

pub there_or_gone : (list : List ℕ) (m n : ℕ) → AreThere list m n ⊎ ((p : ℕ) × (1 ≤ p) × (p ≤ n) × (m < get_or list (p - 1) 0))
there_or_gone list m zero = inl (λ p one le. absurd (omega arith))
there_or_gone list m (suc n) = ⊎_elim
    (λ lt. inr (suc n, omega arith, omega arith, subst (λ (k : ℕ). m < get_or list k 0) (let e : n ≡ suc n - 1 = omega arith in e) lt))
    (λ ge. ⊎_elim
    (λ all. inl (λ p one le. ⊎_elim
    (λ e. let same : get_or list (p - 1) 0 ≡ get_or list n 0 = ap (λ k. get_or list k 0) (let z : p - 1 ≡ n = omega arith in z) in omega arith)
    (λ ne. all p one (omega arith))
    (cases_eq p (suc n))))
    (λ x. inr (x.0, x.1, omega (arith, x.2), x.3))
    (there_or_gone list m n))
    (cases_lt m (get_or list n 0))

-- ---- one commit after the other

-- of the frames up to k each that ends a commit is judged
pub record AreKnownTo (size : ℕ) (w : List ℕ) (front : ℕ) (file : List ℕ) (k : ℕ) (known : List Bool) : Type 0 where
  pub yes : (m : ℕ) → 1 ≤ m → m ≤ k → IsTrue (get_or known (m - 1) false) → IsCommit size w m × ((d : Database) × ShowsAt front m size file w d)
  pub no : (m : ℕ) → 1 ≤ m → m ≤ k → IsCommit size w m → ¬ IsTrue (get_or known (m - 1) false) → (m < front) × IsUnknown size w front file m

pub known_none : (size : ℕ) (w : List ℕ) (front : ℕ) (file : List ℕ) (known : List Bool) → AreKnownTo size w front file 0 known
known_none size w front file known = record { yes = λ m one le. absurd (omega arith); no = λ m one le. absurd (omega arith) }

-- what is found of frame m
pub record IsKnownAt (size : ℕ) (w : List ℕ) (front : ℕ) (file : List ℕ) (m : ℕ) (known : Bool) : Type 0 where
  pub yes : IsTrue known → IsCommit size w m × ((d : Database) × ShowsAt front m size file w d)
  pub no : IsCommit size w m → ¬ IsTrue known → (m < front) × IsUnknown size w front file m

pub known_more : (size : ℕ) (w : List ℕ) (front : ℕ) (file : List ℕ) (k : ℕ) (known now : List Bool) (b : Bool) → AreKnownTo size w front file k known → IsKnownAt size w front file (k + 1) b
    → ((i : ℕ) → i < k → get_or now i false ≡ get_or known i false) → get_or now k false ≡ b → AreKnownTo size w front file (k + 1) now
known_more size w front file k known now b to here same last = record {
  yes = λ m one le t. ⊎_elim
      (λ e. subst (λ (i : ℕ). IsCommit size w i × ((d : Database) × ShowsAt front i size file w d)) (sym e)
      (here.yes (subst (λ (x : Bool). IsTrue x) (ap (λ i. get_or now i false) (let z : m - 1 ≡ k = omega arith in z) ∙ last) t)))
      (λ ne. to.yes m one (omega arith) (subst (λ (x : Bool). IsTrue x) (same (m - 1) (omega arith)) t))
      (cases_eq m (k + 1));
  no = λ m one le commit f. ⊎_elim
      (λ e. subst (λ (i : ℕ). (i < front) × IsUnknown size w front file i) (sym e)
      (here.no (subst (λ (i : ℕ). IsCommit size w i) e commit) (λ t. f (subst (λ (x : Bool). IsTrue x) (sym (ap (λ i. get_or now i false) (let z : m - 1 ≡ k = omega arith in z) ∙ last)) t))))
      (λ ne. to.no m one (omega arith) commit (λ t. f (subst (λ (x : Bool). IsTrue x) (sym (same (m - 1) (omega arith))) t)))
      (cases_eq m (k + 1));
}

-- ---- the header's count in page 1

pub first_none : (size : ℕ) (w file : List ℕ) (c : ℕ) → c ≡ valid_count (file_page size file 1) → IsFirstCount size w file 0 c
first_none size w file c is = inl (λ i one le. absurd (omega arith), is)

pub first_here : (size : ℕ) (w file : List ℕ) (k c : ℕ) → page_of size w (k + 1) ≡ 1 → c ≡ valid_count (content_of size w (k + 1)) → IsFirstCount size w file (k + 1) c
first_here size w file k c named is = inr (k + 1, record { first = omega arith; within = omega arith; names = named; last = λ j a b. absurd (omega arith) }, is)

pub first_still : (size : ℕ) (w file : List ℕ) (k c : ℕ) → page_of size w (k + 1) ≢ 1 → IsFirstCount size w file k c → IsFirstCount size w file (k + 1) c
first_still size w file k c other was = ⊎_elim
    (λ free. inl (λ i one le. ⊎_elim (λ e. λ z. other (ap (page_of size w) (sym e) ∙ z)) (λ ne. free.0 i one (omega arith)) (cases_eq i (k + 1)), free.1))
    (λ x. inr (
      x.0,
      record {
        first = x.1.first;
        within = omega (arith, x.1.within);
        names = x.1.names;
        last = λ j a b. ⊎_elim (λ e. λ z. other (ap (page_of size w) (sym e) ∙ z)) (λ ne. x.1.last j a (omega arith)) (cases_eq j (k + 1));
      },
      x.2,
    ))
    was

-- a frame's own first page, or the one before it
pub first_after : (size : ℕ) (w file : List ℕ) (k : ℕ) → IsPageSize size → frame_end size (k + 1) ≤ length w → (at : ℕ) → at ≡ frame_at size (k + 1) + 24 → (named : ℕ) → named ≡ page_of size w (k + 1)
    → (before c : ℕ) (now : List ℕ) → now ≡ w → IsCountAfter named (part_or_zeros 100 at now) before c → IsFirstCount size w file k before → IsFirstCount size w file (k + 1) c
first_after size w file k is_size whole at at_is named named_is before c now same after was = ⊎_elim
    (λ here. first_here size w file k c (sym named_is ∙ here.0)
    (here.1 ∙ ap (λ l. valid_count (part_or_zeros 100 at l)) same ∙ count_in_100 size at w (let s = size_some size is_size in omega arith) ∙ ap valid_count (content_is size w (k + 1) at (omega arith) whole at_is)))
    (λ other. subst (λ (n : ℕ). IsFirstCount size w file (k + 1) n) (sym other.1) (first_still size w file k before (λ z. other.0 (named_is ∙ z)) was))
    after

-- ---- what is found of a frame

count_high : (most c : ℕ) → cond (c == 0) most (min c most) ≤ most
count_high most c = ⊎_elim
    (λ none. let t : (c == 0) ≡ true = eq-eqb c 0 none in rw t (omega arith))
    (λ some. let t : (c == 0) ≡ false = ne_eqb c 0 some in rw t (omega arith))
    (cases_eq c 0)

module _ (size : ℕ) (w : List ℕ) (front : ℕ) (file : List ℕ) (m : ℕ) (one : 1 ≤ m) (within : m ≤ front) (c : ℕ) (first : IsFirstCount size w file m c) (is_size : IsPageSize size) (until : List ℕ)
    (are : AreUntil size w front file until) (fits : size_of size w m ≤ length until) (bytes : AreBytes file) (b : Bool) (found : IsTrue b ↔ IsKnownBy until m front (size_of size w m) c) where
  abbrev count : ℕ
  count = cond (c == 0) (size_of size w m) (min c (size_of size w m))

  shown_at : IsCommit size w m → (m ≡ front) ⊎ IsThereUpTo until m count → (d : Database) × ShowsAt front m size file w d
  shown_at commit why = ⊎_elim
      (λ last. (built (page_at size w file m) (size_of size w m), inl (last, view_at size w file m one)))
      (λ there. ⊎_elim
      (λ last. (built (page_at size w file m) (size_of size w m), inl (last, view_at size w file m one)))
      (λ ne. (built (page_at size w file m) count, inr (omega (arith, ne), past_known size w file m one commit c count first refl front (omega (arith, ne)) is_size until are there.0 there.1)))
      (cases_eq m front))
      why

  lost_at : IsCommit size w m → ¬ IsTrue b → (m < front) × IsUnknown size w front file m
  lost_at commit not =
      let ne : m ≢ front = λ last. not (found.1 (commit, inl last)) in
      let before : m < front = omega (arith, ne) in
      let le : count ≤ length until = omega (arith, count_high (size_of size w m) c) in
      ⊎_elim
      (λ all. absurd (not (found.1 (commit, inr (le, all)))))
      (λ gone. (before, past_lost size w file m one commit c count first refl front before is_size until are le bytes gone))
      (there_or_gone until m count)

  pub known_at_frame : IsKnownAt size w front file m b
  known_at_frame = record {
    yes = λ t. let why = found.0 t in (why.0, shown_at why.0 why.1);
    no = λ commit not. lost_at commit not;
  }

-- ---- the whole log

pub known_empty : (size : ℕ) (w : List ℕ) (front : ℕ) (file : List ℕ) (known : List Bool) → front ≡ 0 → known ≡ [] → AreKnown size w front file known
known_empty size w front file known none is = record {
  long = ap length is ∙ sym none;
  yes = λ m one le. absurd (omega arith);
  no = λ m one le. absurd (omega arith);
}

pub known_all : (size : ℕ) (w : List ℕ) (front : ℕ) (file : List ℕ) (k : ℕ) (known : List Bool) → length known ≡ k → k ≡ front → AreKnownTo size w front file k known → AreKnown size w front file known
known_all size w front file k known long all to = record {
  long = long ∙ all;
  yes = λ m one le. to.yes m one (omega arith);
  no = λ m one le. to.no m one (omega arith);
}
