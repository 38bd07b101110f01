-- What a commit makes of a database.
use Rattle.std.proofs.Common.{◌≡◌, ◌≢◌, ⊎_elim, ℕ, zero, suc, ◌-◌, ◌<◌, ◌≤◌, cond, List, [], ◌∷◌, length, get_or, refl, sym, ◌∙◌, ap, arith, length-append}
use Rattle.std.specs.Prelude.{◌==◌, Some, None, unwrap_or}
use Rattle.std.proofs.lemmas.Bool.{cases_eq, cases_lt}
use Rattle.std.proofs.lemmas.Bool.Decides.{nat_tests}
use Rattle.std.proofs.lemmas.List.{get_or_append_left, get_or_at}
use Rattle.sqval.specs.Database.{Database, Pages, page, supplied, apply}

abbrev pub number_at : Pages → ℕ → ℕ
number_at pages k = (get_or pages k (0, [])).0

abbrev pub content_at : Pages → ℕ → List ℕ
content_at pages k = (get_or pages k (0, [])).1

hit : {A : Type 0} (a b : ℕ) (x y : A) → a ≡ b → cond (a == b) x y ≡ x
hit a b x y e = grind (arith, nat_tests)

miss : {A : Type 0} (a b : ℕ) (x y : A) → a ≢ b → cond (a == b) x y ≡ y
miss a b x y ne = grind (arith, nat_tests)

-- where no page has the number, nothing is supplied
pub supplied_none : (pages : Pages) (p : ℕ) → ((k : ℕ) → k < length pages → number_at pages k ≢ p) → supplied pages p ≡ None
supplied_none [] p none = refl
supplied_none (x ∷ pages) p none = miss x.0 p (Some x.1) (supplied pages p) (none 0 (omega arith)) ∙ supplied_none pages p (λ k lt. none (suc k) (omega arith))

-- where numbers stand once alone, the page that has it is the one that is supplied
pub supplied_at : (pages : Pages) (k p : ℕ) → ((i j : ℕ) → i < length pages → j < length pages → number_at pages i ≡ number_at pages j → i ≡ j) → k < length pages → number_at pages k ≡ p
    → supplied pages p ≡ Some (content_at pages k)
supplied_at [] k p once lt is = absurd (omega arith)
supplied_at (x ∷ pages) zero p once lt is = hit x.0 p (Some x.1) (supplied pages p) is
supplied_at (x ∷ pages) (suc k) p once lt is =
    let ne : x.0 ≢ p = λ e. let z : 0 ≡ suc k = once 0 (suc k) (omega arith) lt (e ∙ sym is) in omega arith in
    miss x.0 p (Some x.1) (supplied pages p) ne
    ∙ supplied_at pages k p (λ i j a b e. let z : suc i ≡ suc j = once (suc i) (suc j) (omega arith) (omega arith) e in omega arith) (omega arith) is

-- what is supplied is the content of a page
pub supplied_found : (pages : Pages) (p : ℕ) (c : List ℕ) → supplied pages p ≡ Some c → (k : ℕ) × (k < length pages) × (content_at pages k ≡ c)
supplied_found [] p c is = absurd (none_some is)
  where
    none_some : {A : Type 0} {x : A} → None ≡ Some x → ⊥
    none_some e = cc e
supplied_found (x ∷ pages) p c is = ⊎_elim
    (λ e. (0, omega arith, some_same (sym (hit x.0 p (Some x.1) (supplied pages p) e) ∙ is)))
    (λ ne. let found = supplied_found pages p c (sym (miss x.0 p (Some x.1) (supplied pages p) ne) ∙ is) in (suc found.0, omega (arith, found.1), found.2))
    (cases_eq x.0 p)
  where
    some_same : {A : Type 0} {y z : A} → Some y ≡ Some z → y ≡ z
    some_same e = cc e

pub length-apply : (d : Database) (pages : Pages) (n : ℕ) → length (apply d pages n) ≡ n
length-apply d pages zero = refl
length-apply d pages (suc n) = omega (arith, length-append (apply d pages n) (unwrap_or (supplied pages (suc n)) (page d (suc n)) ∷ []), length-apply d pages n)

pub page-apply : (d : Database) (pages : Pages) (n p : ℕ) → 1 ≤ p → p ≤ n → page (apply d pages n) p ≡ unwrap_or (supplied pages p) (page d p)
unfolding page
page-apply d pages zero p a b = absurd (omega arith)
page-apply d pages (suc n) p a b =
    let last : List ℕ = unwrap_or (supplied pages (suc n)) (page d (suc n)) in
    ⊎_elim
    (λ lt. get_or_append_left (apply d pages n) (last ∷ []) [] (p - 1) (omega (arith, length-apply d pages n)) ∙ page-apply d pages n p a (omega arith))
    (λ ge.
    let e : suc n ≡ p = omega arith in
    get_or_at (apply d pages n) last [] [] (p - 1) (length-apply d pages n ∙ (let z : n ≡ p - 1 = omega arith in z)) ∙ ap (λ (q : ℕ). unwrap_or (supplied pages q) (page d q)) e)
    (cases_lt p (suc n))
