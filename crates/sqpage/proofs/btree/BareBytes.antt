-- How many bytes of a page are in no span.
use Rattle.std.proofs.Common.{◌≡◌, ℕ, zero, suc, ◌+◌, ◌-◌, ◌<◌, ◌≤◌, ◌⊎◌, List, [], ◌∷◌, cond, eqb, min, max, sum_by, refl, ap, ◌∙◌, inl, inr, arith}
use Rattle.std.proofs.lemmas.Bool.{cases_lt}
use Rattle.std.proofs.lemmas.List.Sums.{sum_by-cons}
use Rattle.std.specs.List.{range_with_len}
use Rattle.sqpage.specs.Lists.{Every}
use Rattle.sqpage.specs.Layout.{Span, covers, times_covered, ShareNone, bare_bytes}
use Rattle.sqpage.specs.internal.Marking.{bytes_before, taken_before}
use Rattle.sqpage.proofs.btree.MarksOnBytes.{covering, not_covering}

-- a span that ends before a place
pub all_before : (end at size : ℕ) → at + size ≤ end → bytes_before end (record { start = at; size = size }) ≡ size
all_before end at size le = grind arith

-- how many bytes of a span are among so many from a place on
in_range : (n from : ℕ) (s : Span) → sum_by (λ place. cond (covers s place) 1 0) (range_with_len from n) ≡ min (s.start + s.size) (from + n) - max s.start from
in_range zero from s = grind arith
in_range (suc n) from s =
    sum_by-cons (λ place. cond (covers s place) 1 0) from (range_with_len (from + 1) n)
    ∙ ap (λ m. cond (covers s from) 1 0 + m) (in_range n (from + 1) s)
    ∙ first (cases_lt from s.start) (cases_lt from (s.start + s.size))
  where
    first : (from < s.start) ⊎ (s.start ≤ from) → (from < s.start + s.size) ⊎ (s.start + s.size ≤ from)
        → cond (covers s from) 1 0 + (min (s.start + s.size) (from + 1 + n) - max s.start (from + 1)) ≡ min (s.start + s.size) (from + suc n) - max s.start from
    first (inl lt) b = let e : ◌≡◌ {A = ℕ} (cond (covers s from) 1 0) 0 = ap (λ b. cond b 1 0) (not_covering s.start s.size from (inl lt)) in rw e (grind arith)
    first (inr ge) (inl lt) = let e : ◌≡◌ {A = ℕ} (cond (covers s from) 1 0) 1 = ap (λ b. cond b 1 0) (covering s.start s.size from ge lt) in rw e (grind arith)
    first (inr ge) (inr past) = let e : ◌≡◌ {A = ℕ} (cond (covers s from) 1 0) 0 = ap (λ b. cond b 1 0) (not_covering s.start s.size from (inr past)) in rw e (grind arith)

sum_both : (f g h : ℕ → ℕ) → ((x : ℕ) → h x ≡ f x + g x) → (xs : List ℕ) → sum_by h xs ≡ sum_by f xs + sum_by g xs
sum_both f g h e [] = refl
sum_both f g h e (x ∷ xs) = omega (arith, e x, sum_by-cons h x xs, sum_by-cons f x xs, sum_by-cons g x xs, sum_both f g h e xs)

sum_none : (xs : List ℕ) → sum_by (λ x. 0) xs ≡ 0
sum_none [] = refl
sum_none (x ∷ xs) = omega (arith, sum_by-cons (λ (x : ℕ). 0) x xs, sum_none xs)

covered_in_all : (n from : ℕ) (spans : List Span) → Every (λ s. from ≤ s.start) spans → sum_by (λ place. times_covered spans place) (range_with_len from n) ≡ taken_before (from + n) spans
covered_in_all n from [] h = sum_none (range_with_len from n)
covered_in_all n from (s ∷ spans) h =
    sum_both (λ place. cond (covers s place) 1 0) (λ place. times_covered spans place) (λ place. times_covered (s ∷ spans) place) (λ place. sum_by-cons (λ (x : Span). cond (covers x place) 1 0) s spans) (range_with_len from n)
    ∙ (let one : sum_by (λ place. cond (covers s place) 1 0) (range_with_len from n) ≡ bytes_before (from + n) s = in_range n from s ∙ (let le : from ≤ s.start = h.0 in let e : max s.start from ≡ s.start = grind arith in ap (λ m. min (s.start + s.size) (from + n) - m) e) in
    omega (arith, one, covered_in_all n from spans h.1, sum_by-cons (bytes_before (from + n)) s spans))

each_once : (spans : List Span) → ShareNone spans → (xs : List ℕ) → sum_by (λ place. cond (eqb (times_covered spans place) 0) 1 0) xs + sum_by (λ place. times_covered spans place) xs ≡ sum_by (λ x. 1) xs
each_once spans apart [] = refl
each_once spans apart (x ∷ xs) =
    let here : cond (eqb (times_covered spans x) 0) 1 0 + times_covered spans x ≡ 1 = one (times_covered spans x) (apart x) in
    omega (arith, here, each_once spans apart xs, sum_by-cons (λ place. cond (eqb (times_covered spans place) 0) 1 0) x xs, sum_by-cons (λ place. times_covered spans place) x xs, sum_by-cons (λ (x : ℕ). 1) x xs)
  where
    one : (m : ℕ) → m ≤ 1 → cond (eqb m 0) 1 0 + m ≡ 1
    one m le = grind arith

how_many : (n from : ℕ) → sum_by (λ x. 1) (range_with_len from n) ≡ n
how_many zero from = refl
how_many (suc n) from = omega (arith, sum_by-cons (λ (x : ℕ). 1) from (range_with_len (from + 1) n), how_many n (from + 1))

-- Of so many bytes those that are in no span and those that are taken are all, where the spans share none.
pub bare_and_taken : (n from : ℕ) (spans : List Span) → ShareNone spans → Every (λ s. from ≤ s.start) spans → bare_bytes spans from n + taken_before (from + n) spans ≡ n
bare_and_taken n from spans apart behind =
    omega (arith, each_once spans apart (range_with_len from n), covered_in_all n from spans behind, how_many n from)
