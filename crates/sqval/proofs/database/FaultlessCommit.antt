-- Pages of a commit in which nothing is wrong, and the database that they make.
use Rattle.std.proofs.Common.{◌≡◌, ⊎_elim, ℕ, zero, suc, ◌+◌, ◌-◌, ◌*◌, ◌<◌, ◌≤◌, Bool, true, false, cond, not, List, ◌∷◌, ◌++◌, length, get_or, refl, sym, ◌∙◌, ap, subst, arith, eq-eqb, []}
use Rattle.std.specs.Prelude.{◌==◌, nat_lt, Option, Some, None, unwrap_or, is_some}
use Rattle.std.specs.List.{list_any, range_with_len}
use Rattle.std.proofs.lemmas.Bool.{true≢false, cases_eq, cases_lt, cases_order}
use Rattle.std.proofs.lemmas.Bool.Decides.{nat_tests}
use Rattle.std.proofs.lemmas.List.{get_or-map}
use Rattle.std.proofs.lemmas.Map.Keys.{apart_from_distinct}
use Rattle.sqval.specs.Database.{Database, Pages, page, supplied, apply}
use Rattle.sqval.specs.CommitFaults.{most_bytes, has_twice, has_hole, first_true, page_faults}
use Rattle.sqval.specs.Held.{IsHeld}
use Rattle.sqval.specs.internal.JudgedPages.{numbers_of}
use Rattle.sqval.proofs.page.PageNumbers.{neither, distinct, length_map}
use Rattle.sqval.proofs.database.CommittedDatabase.{number_at, content_at, supplied_at, supplied_found, length-apply, page-apply}

-- ---- No condition holds.

abbrev NoneHolds : List (Bool × ℕ) → Type 0
NoneHolds [] = Unit {0}
NoneHolds (c ∷ cs) = (c.0 ≡ false) × NoneHolds cs

none_holds : (cs : List (Bool × ℕ)) → first_true cs ≡ None → NoneHolds cs
none_holds [] h = tt
none_holds ((true, n) ∷ cs) h = absurd (cc h)
none_holds ((false, n) ∷ cs) h = (refl, none_holds cs h)

-- where none of all holds, none of the first ones does, nor of the others
pub none_both : (cs ds : List (Bool × ℕ)) → first_true (cs ++ ds) ≡ None → (first_true cs ≡ None) × (first_true ds ≡ None)
none_both [] ds h = (refl, h)
none_both ((true, n) ∷ cs) ds h = absurd (cc h)
none_both ((false, n) ∷ cs) ds h = none_both cs ds h

pub one_none : (c : Bool) (n : ℕ) → first_true ((c, n) ∷ []) ≡ None → c ≡ false
one_none true n h = absurd (cc h)
one_none false n h = refl

none_of : {X : Type 0} (f : X → Bool) (xs : List X) (d : X) (k : ℕ) → list_any f xs ≡ false → k < length xs → f (get_or xs k d) ≡ false
none_of f [] d k h lt = absurd (omega arith)
none_of f (x ∷ xs) d zero h lt = (neither (f x) (list_any f xs) h).0
none_of f (x ∷ xs) d (suc k) h lt = none_of f xs d k (neither (f x) (list_any f xs) h).1 (omega arith)

not_false : (b : Bool) → not b ≡ false → b ≡ true
not_false true h = refl
not_false false h = absurd (true≢false h)

in_range : (P : ℕ → Bool) (from n p : ℕ) → list_any (λ q. not (P q)) (range_with_len from n) ≡ false → from ≤ p → p < from + n → P p ≡ true
in_range P from zero p h a b = absurd (omega arith)
in_range P from (suc n) p h a b =
    let both = neither (not (P from)) (list_any (λ q. not (P q)) (range_with_len (from + 1) n)) h in
    ⊎_elim
    (λ (e : from ≡ p). ap P (sym e) ∙ not_false (P from) both.0)
    (λ (ne : from ≡ p → ⊥). in_range P (from + 1) n p both.1 (omega arith) (omega arith))
    (cases_eq from p)

-- ---- Nothing is wrong.

pub record IsFaultless (old_size page_size : ℕ) (pages : Pages) (size : ℕ) : Type 0 where
  pub some : 1 ≤ length pages
  pub sized : 1 ≤ size
  pub above_zero : (k : ℕ) → k < length pages → 1 ≤ number_at pages k
  pub within : (k : ℕ) → k < length pages → number_at pages k ≤ size
  pub once : has_twice pages ≡ false
  pub whole : has_hole pages old_size size ≡ false
  pub full : (k : ℕ) → k < length pages → length (content_at pages k) ≡ page_size
  pub bytes : size * page_size ≤ most_bytes

pub faultless : (old_size page_size : ℕ) (pages : Pages) (size : ℕ) → first_true (page_faults old_size page_size pages size) ≡ None → IsFaultless old_size page_size pages size
faultless old_size page_size pages size h =
    let none = none_holds (page_faults old_size page_size pages size) h in
    let r2 : (length pages == 0) ≡ false = none.0 in
    let r3 : (size == 0) ≡ false = none.1.0 in
    let r4 : list_any (λ x. x.0 == 0) pages ≡ false = none.1.1.0 in
    let r5 : list_any (λ x. nat_lt size x.0) pages ≡ false = none.1.1.1.0 in
    let r8 : list_any (λ x. not (length x.1 == page_size)) pages ≡ false = none.1.1.1.1.1.1.0 in
    let r9 : nat_lt most_bytes (size * page_size) ≡ false = none.1.1.1.1.1.1.1.0 in
    record {
      some = grind (arith, nat_tests, r2);
      sized = grind (arith, nat_tests, r3);
      above_zero = λ k lt. let f = none_of (λ x. x.0 == 0) pages (0, []) k r4 lt in grind (arith, nat_tests, f);
      within = λ k lt. let f = none_of (λ x. nat_lt size x.0) pages (0, []) k r5 lt in grind (arith, nat_tests, f);
      once = none.1.1.1.1.0;
      whole = none.1.1.1.1.1.0;
      full = λ k lt. let f = none_of (λ x. not (length x.1 == page_size)) pages (0, []) k r8 lt in grind (arith, nat_tests, f);
      bytes = grind (arith, nat_tests, r9);
    }

module _ (old_size page_size : ℕ) (pages : Pages) (size : ℕ) (is : IsFaultless old_size page_size pages size) where
  number : (i : ℕ) → i < length pages → get_or (numbers_of pages) i 0 ≡ number_at pages i
  number i lt = get_or-map (λ (x : ℕ × List ℕ). x.0) pages i (0, []) 0 lt

  apart : (i j : ℕ) → i < j → j < length pages → number_at pages i ≡ number_at pages j → ⊥
  apart i j lt within same =
      let a : ℕ = get_or (numbers_of pages) i 0 in
      let b : ℕ = get_or (numbers_of pages) j 0 in
      let e : a ≡ b = number i (omega arith) ∙ same ∙ sym (number j within) in
      true≢false (sym (eq-eqb a b e) ∙ apart_from_distinct (λ x y. x == y) (numbers_of pages) i j 0 (distinct pages is.once) lt (omega (arith, length_map (λ (x : ℕ × List ℕ). x.0) pages)))

  -- a number stands once
  pub number_once : (i j : ℕ) → i < length pages → j < length pages → number_at pages i ≡ number_at pages j → i ≡ j
  number_once i j a b same = ⊎_elim (λ e. e) (λ o. ⊎_elim (λ lt. absurd (apart i j lt b same)) (λ gt. absurd (apart j i gt a (sym same))) o) (cases_order i j)

  -- each page is the one that is supplied
  pub supplied_here : (k : ℕ) → k < length pages → supplied pages (number_at pages k) ≡ Some (content_at pages k)
  supplied_here k lt = supplied_at pages k (number_at pages k) number_once lt refl

  -- above the old size each number is supplied
  pub above_some : (p : ℕ) → old_size < p → p ≤ size → is_some (supplied pages p) ≡ true
  above_some p a b = in_range (λ q. is_some (supplied pages q)) (old_size + 1) (size - old_size) p is.whole (omega arith) (omega arith)

  -- above the old size each page is
  pub above_supplied : (p : ℕ) → old_size < p → p ≤ size → (k : ℕ) × (k < length pages) × (number_at pages k ≡ p)
  above_supplied p a b = numbered pages p (above_some p a b)
    where
      numbered : (xs : Pages) (p : ℕ) → is_some (supplied xs p) ≡ true → (k : ℕ) × (k < length xs) × (number_at xs k ≡ p)
      numbered [] p h = absurd (true≢false (sym h))
      numbered (x ∷ xs) p h = ⊎_elim
          (λ e. (0, omega arith, e))
          (λ ne.
          let miss : cond (x.0 == p) (Some x.1) (supplied xs p) ≡ supplied xs p = grind (arith, nat_tests, ne) in
          let rest = numbered xs p (ap is_some (sym miss) ∙ h) in (suc rest.0, omega (arith, rest.1), rest.2))
          (cases_eq x.0 p)

-- what it makes of a database that an engine holds
pub held_applied : (size : ℕ) (d : Database) (pages : Pages) (n : ℕ) → IsFaultless (length d) size pages n → IsHeld size d → IsHeld size (apply d pages n)
held_applied size d pages n is held =
    let len : length (apply d pages n) ≡ n = length-apply d pages n in
    record {
      some = omega (arith, is.sized);
      full = λ p a b. ap (λ (x : List ℕ). length x) (page-apply d pages n p a (omega arith)) ∙ by p a (omega arith) (supplied pages p) refl;
      few = subst (λ (k : ℕ). k * size ≤ most_bytes) (sym len) is.bytes;
    }
  where
    by : (p : ℕ) → 1 ≤ p → p ≤ n → (x : Option (List ℕ)) → supplied pages p ≡ x → length (unwrap_or x (page d p)) ≡ size
    by p a b None e = held.full p a (⊎_elim
        (λ lt. absurd (true≢false (sym (above_some (length d) size pages n is p lt b) ∙ ap is_some e)))
        (λ le. le)
        (cases_lt (length d) p))
    by p a b (Some c) e = let found = supplied_found pages p c e in ap (λ (x : List ℕ). length x) (sym found.2) ∙ is.full found.0 found.1
