-- Sums over the places of a page.
use Rattle.std.proofs.Common.{◌≡◌, ◌≢◌, ⊎_elim, ℕ, zero, suc, ◌+◌, ◌-◌, ◌%◌, ◌<◌, ◌≤◌, List, length, get_or, refl, sym, ◌∙◌, ap, arith}
use Rattle.std.proofs.lemmas.Bool.Decides.{nat_tests}
use Rattle.std.proofs.lemmas.Bool.{cases_lt}
use Rattle.sqjournal.specs.NonceSum.{total, counted}

-- where nothing counts from a on, the sum stays
pub total_none : (f : ℕ → ℕ) (a n : ℕ) → a ≤ n → ((k : ℕ) → a ≤ k → k < n → f k ≡ 0) → total f n ≡ total f a
unfolding total
total_none f a zero h none = let e : a ≡ 0 = omega arith in ap (total f) (sym e)
total_none f a (suc n) h none =
    ⊎_elim (λ below. let rest : total f n ≡ total f a = total_none f a n (omega arith) (λ k p q. none k p (omega arith)) in
    let here : f n ≡ 0 = none n (omega arith) (omega arith) in omega arith)
    (λ above. let e : a ≡ suc n = omega arith in ap (total f) (sym e)) (cases_lt a (suc n))

-- between two places that count none does
pub between : (page : List ℕ) (at k : ℕ) → at ≤ length page → (length page - at) % 200 ≡ 0 → k < at → at < k + 200 → counted page k ≡ 0
between page at k h whole below near =
    let apart : (length page - k) % 200 ≢ 0 = λ e. omega arith in grind (arith, nat_tests, apart)

-- a place that counts
pub at_place : (page : List ℕ) (k : ℕ) → 0 < k → (length page - k) % 200 ≡ 0 → counted page k ≡ get_or page k 0
at_place page k h whole = grind (arith, nat_tests)

-- one step back
pub step_back : (page : List ℕ) (at : ℕ) → at ≤ length page → (length page - at) % 200 ≡ 0 → 200 < at →
    total (counted page) at ≡ total (counted page) (at - 200) + get_or page (at - 200) 0
unfolding total
step_back page at h whole far =
    let same : total (counted page) at ≡ total (counted page) (suc (at - 200)) =
    total_none (counted page) (suc (at - 200)) at (omega arith) (λ k p q. between page at k h whole (omega arith) (omega arith)) in
    let place : (length page - (at - 200)) % 200 ≡ 0 = omega arith in
    let here : counted page (at - 200) ≡ get_or page (at - 200) 0 = at_place page (at - 200) (omega arith) place in
    same ∙ ap (λ x. total (counted page) (at - 200) + x) here

-- below the lowest place that counts
pub at_last : (page : List ℕ) (at : ℕ) → at ≤ length page → (length page - at) % 200 ≡ 0 → at ≤ 200 → total (counted page) at ≡ 0
unfolding total
at_last page at h whole near =
    ⊎_elim (λ some.
    let first : counted page 0 ≡ 0 = refl in
    let rest : total (counted page) at ≡ total (counted page) 1 = total_none (counted page) 1 at some (λ k p q. between page at k h whole q (omega arith)) in
    rest ∙ first)
    (λ none. let e : at ≡ 0 = omega arith in ap (total (counted page)) e) (cases_lt 0 at)
