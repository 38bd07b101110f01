-- The frames of a log by the pages that they name, and its smallest commit.
use Rattle.std.proofs.Common.{◌≡◌, ◌≢◌, ◌⊎◌, inl, inr, ⊎_elim, ℕ, ◌+◌, ◌-◌, ◌<◌, ◌≤◌, List, length, get_or, set, sym, ◌∙◌, ap, subst, arith}
use Rattle.std.proofs.lemmas.Bool.{cases_eq}
use Rattle.std.proofs.lemmas.List.{length-set, get_or-set_same, get_or-set_other}
use Rattle.sqwal.specs.Frames.{page_of, size_of, IsCommit}
use Rattle.sqpast.specs.internal.Chains.{IsNextFrame, AreChainsFrom, IsLeastCommit}

module _ (size : ℕ) (w : List ℕ) (front pages frame page : ℕ) (first next : List ℕ) (names : page ≡ page_of size w frame) (some : 1 ≤ page)
    (low : 1 ≤ frame) (fits : frame ≤ length next) (are : AreChainsFrom size w front pages frame first next) where
  named : (i p : ℕ) → i ≡ frame → page_of size w i ≡ p → page ≡ p
  named i p e is = names ∙ ap (page_of size w) (sym e) ∙ is

  -- a page that this frame doesn't name
  back : (p f : ℕ) → page ≢ p → IsNextFrame size w front frame p f → IsNextFrame size w front (frame - 1) p f
  back p f ne is = ⊎_elim
      (λ none. inl (none.0, λ i gt le e. ⊎_elim (λ here. ne (named i p here e)) (λ away. none.1 i (omega arith) le e) (cases_eq i frame)))
      (λ x. inr (omega (arith, x.0), x.1, x.2, λ i gt lt e. ⊎_elim (λ here. ne (named i p here e)) (λ away. x.3 i (omega arith) lt e) (cases_eq i frame)))
      is

  pub unlinked : length first < page → AreChainsFrom size w front pages (frame - 1) first next
  unlinked above = record {
    long = are.long;
    frames = are.frames;
    each = λ p one le. back p (get_or first (p - 1) 0) (omega (arith, are.long)) (are.each p one le);
    further = λ i p gt le one most e. ⊎_elim
        (λ here. absurd (omega (arith, named i p here e, are.long)))
        (λ away. are.further i p (omega arith) le one most e)
        (cases_eq i frame);
  }

  abbrev first_now : List ℕ
  first_now = set first (page - 1) frame

  abbrev next_now : List ℕ
  next_now = set next (frame - 1) (get_or first (page - 1) 0)

  pub linked : page ≤ length first → AreChainsFrom size w front pages (frame - 1) first_now next_now
  linked within = record {
    long = length-set first (page - 1) frame ∙ are.long;
    frames = length-set next (frame - 1) (get_or first (page - 1) 0) ∙ are.frames;
    each = λ p one le. ⊎_elim
        (λ e. subst (IsNextFrame size w front (frame - 1) p) (sym (ap (λ n. get_or first_now (n - 1) 0) (sym e) ∙ get_or-set_same first (page - 1) frame 0 (omega arith)))
        (inr (omega arith, omega (arith, are.frames), sym names ∙ e, λ i gt lt. absurd (omega arith))))
        (λ ne. subst (IsNextFrame size w front (frame - 1) p) (sym (get_or-set_other first (page - 1) (p - 1) frame 0 (omega arith)))
        (back p (get_or first (p - 1) 0) ne (are.each p one le)))
        (cases_eq page p);
    further = λ i p gt le one most e. ⊎_elim
        (λ here.
        let same : page ≡ p = named i p here e in
        let is : get_or next_now (i - 1) 0 ≡ get_or first (p - 1) 0 =
        ap (λ n. get_or next_now (n - 1) 0) here ∙ get_or-set_same next (frame - 1) (get_or first (page - 1) 0) 0 (omega arith) ∙ ap (λ n. get_or first (n - 1) 0) same in
        subst (IsNextFrame size w front i p) (sym is) (subst (λ (n : ℕ). IsNextFrame size w front n p (get_or first (p - 1) 0)) (sym here) (are.each p one most)))
        (λ away. subst (IsNextFrame size w front i p) (sym (get_or-set_other next (frame - 1) (i - 1) (get_or first (page - 1) 0) 0 (omega arith)))
        (are.further i p (omega arith) le one most e))
        (cases_eq i frame);
  }

-- no frame is linked
pub linked_none : (size : ℕ) (w : List ℕ) (front pages : ℕ) (first next : List ℕ) → length first ≡ pages → length next ≡ front → ((i : ℕ) → get_or first i 0 ≡ 0)
    → AreChainsFrom size w front pages front first next
linked_none size w front pages first next a b zeros = record {
  long = a;
  frames = b;
  each = λ p one le. inl (zeros (p - 1), λ i gt most. absurd (omega arith));
  further = λ i p gt le one most e. absurd (omega arith);
}

-- ---- the smallest commit

pub record IsLeastTo (size : ℕ) (w : List ℕ) (front k least : ℕ) : Type 0 where
  pub below : (j : ℕ) → 1 ≤ j → j ≤ k → IsCommit size w j → least ≤ size_of size w j
  pub one : (j : ℕ) × (1 ≤ j) × (j ≤ front) × IsCommit size w j × (size_of size w j ≡ least)

pub least_none : (size : ℕ) (w : List ℕ) (front least : ℕ) → 1 ≤ front → IsCommit size w front → least ≡ size_of size w front → IsLeastTo size w front 0 least
least_none size w front least some commit is = record {
  below = λ j a b c. absurd (omega arith);
  one = (front, some, omega arith, commit, sym is);
}

module _ (size : ℕ) (w : List ℕ) (front k least here : ℕ) (is : here ≡ size_of size w (k + 1)) (are : IsLeastTo size w front k least) where
  before : (j : ℕ) → 1 ≤ j → j ≤ k + 1 → j ≢ k + 1 → IsCommit size w j → least ≤ size_of size w j
  before j a b ne c = are.below j a (omega arith) c

  -- it has fewer pages
  pub least_now : here ≢ 0 → here < least → k < front → IsLeastTo size w front (k + 1) here
  least_now some lt in_front = record {
    below = λ j a b c. ⊎_elim (λ e. omega (arith, ap (size_of size w) e)) (λ ne. omega (arith, before j a b ne c)) (cases_eq j (k + 1));
    one = (k + 1, omega arith, omega arith, (λ z. some (is ∙ z)), sym is);
  }

  -- it ends no commit, or one of no fewer pages
  pub least_still : (here ≡ 0) ⊎ (least ≤ here) → IsLeastTo size w front (k + 1) least
  least_still why = record {
    below = λ j a b c. ⊎_elim
        (λ e. ⊎_elim (λ none. absurd (c (ap (size_of size w) e ∙ sym is ∙ none))) (λ le. omega (arith, ap (size_of size w) e)) why)
        (λ ne. before j a b ne c)
        (cases_eq j (k + 1));
    one = are.one;
  }

pub least_all : (size : ℕ) (w : List ℕ) (front k least : ℕ) → front ≤ k → IsLeastTo size w front k least → IsLeastCommit size w front least
least_all size w front k least le are = record { below = λ j a b c. are.below j a (omega arith) c; one = are.one }
