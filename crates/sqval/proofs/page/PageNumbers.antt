-- The page numbers of a commit.
use Rattle.std.proofs.Common.{◌≡◌, ⊎_elim, ℕ, zero, suc, ◌+◌, ◌-◌, ◌<◌, ◌≤◌, Bool, true, false, cond, not, ◌||◌, List, [], ◌∷◌, map, length, get_or, drop, sym, ◌∙◌, ap, refl, arith}
use Rattle.std.specs.Prelude.{◌==◌, Some, is_some, is_err, Result, Ok, Err, MatchResult}
use Rattle.std.specs.Bool.{MatchBool}
use Rattle.std.specs.List.{list_any, range_with_len, AllByRecursion, IsDistinct}
use Rattle.std.specs.List.Sorted.{IsPermutation, IsNonDecreasing, IsStrictlyIncreasing, IsBinarySearchResult}
use Rattle.std.specs.Ordering.{nat_cmp}
use Rattle.std.specs.Borrow.{Bor}
use Rattle.std.proofs.Math.Bool.{or-true}
use Rattle.std.proofs.Math.Seq.{drop-cons}
use Rattle.std.proofs.lemmas.Bool.{ne_eqb, cases_Bool, cases_eq, cases_lt, true≢false}
use Rattle.std.proofs.lemmas.Bool.Decides.{nat_tests}
use Rattle.std.proofs.lemmas.List.Sorted.{list_any-IsPermutation, IsPermutation-sym, searched}
use Rattle.std.proofs.lemmas.Grind.{get_or_default_zero}
use Rattle.std.proofs.lemmas.List.Folds.{list_any_none}
use Rattle.std.proofs.lemmas.Map.Keys.{IsDistinct-IsPermutation, IsDistinct-from_apart, IsStrictlyIncreasing-from_distinct, sorted_from_strictly_increasing, below_from_sorted}
use Rattle.sqval.specs.Database.{Pages, supplied}
use Rattle.sqval.specs.CommitFaults.{has_twice, has_hole}
use Rattle.sqval.specs.JudgedPages.{lent}
use Rattle.sqval.specs.internal.JudgedPages.{Misses, numbers_of}

pub any_map : {X Y : Type 0} → (f : X → Y) (p : Y → Bool) (xs : List X) → list_any p (map f xs) ≡ list_any (λ x. p (f x)) xs
any_map f p [] = refl
any_map f p (x ∷ xs) = ap (λ b. p (f x) || b) (any_map f p xs)

pub length_map : {X Y : Type 0} → (f : X → Y) (xs : List X) → length (map f xs) ≡ length xs
length_map f [] = refl
length_map f (x ∷ xs) = ap suc (length_map f xs)

pub any_lent : (p : ℕ × List ℕ → Bool) (pages : List (ℕ × Bor (List ℕ))) → list_any p (lent pages) ≡ list_any (λ x. p (x.0, x.1.now)) pages
any_lent p pages = any_map (λ x. (x.0, x.1.now)) p pages

pub lent_length : (pages : List (ℕ × Bor (List ℕ))) → length (lent pages) ≡ length pages
lent_length pages = length_map (λ x. (x.0, x.1.now)) pages

pub numbers_lent : (pages : List (ℕ × Bor (List ℕ))) → numbers_of (lent pages) ≡ numbers_of pages
numbers_lent [] = refl
numbers_lent (x ∷ pages) = ap (λ ns. x.0 ∷ ns) (numbers_lent pages)

pub supplied_any : (pages : Pages) (p : ℕ) → is_some (supplied pages p) ≡ list_any (λ q. q == p) (numbers_of pages)
supplied_any [] p = refl
supplied_any (x ∷ pages) p =
    elim (x.0 == p) as (λ b. is_some (cond b (Some x.1) (supplied pages p)) ≡ (b || list_any (λ q. q == p) (numbers_of pages))) [ true ↦ refl | false ↦ supplied_any pages p ]

pub neither : (a b : Bool) → (a || b) ≡ false → (a ≡ false) × (b ≡ false)
neither true b h = absurd (true≢false h)
neither false b h = (refl, h)

flipped : (x y : ℕ) → (x == y) ≡ (y == x)
flipped x y = grind (arith, nat_tests)

-- ---- a page twice

apart : (x : ℕ) (ys : List ℕ) → list_any (λ q. q == x) ys ≡ false → AllByRecursion (λ y. (x == y) ≡ false) ys
apart x [] h = tt
apart x (y ∷ ys) h = let n = neither (y == x) (list_any (λ q. q == x) ys) h in (flipped x y ∙ n.0, apart x ys n.1)

together : (x : ℕ) (ys : List ℕ) → AllByRecursion (λ y. (x == y) ≡ false) ys → list_any (λ q. q == x) ys ≡ false
together x [] h = refl
together x (y ∷ ys) h = ap (λ b. b || list_any (λ q. q == x) ys) (flipped y x ∙ h.0) ∙ together x ys h.1

pub distinct : (pages : Pages) → has_twice pages ≡ false → IsDistinct (λ x y. x == y) (numbers_of pages)
unfolding IsDistinct
distinct [] h = tt
distinct (x ∷ pages) h =
    let n = neither (is_some (supplied pages x.0)) (has_twice pages) h in
    (apart x.0 (numbers_of pages) (sym (supplied_any pages x.0) ∙ n.0), distinct pages n.1)

never_twice : (pages : Pages) → IsDistinct (λ x y. x == y) (numbers_of pages) → has_twice pages ≡ false
unfolding IsDistinct
never_twice [] h = refl
never_twice (x ∷ pages) h =
    ap (λ b. b || has_twice pages) (supplied_any pages x.0 ∙ together x.0 (numbers_of pages) h.0) ∙ never_twice pages h.1

-- numbers in order rise exactly where no page is there twice
pub twice_in_order : (pages : Pages) (ns : List ℕ) (rise : Bool) → IsPermutation (numbers_of pages) ns → IsNonDecreasing ns → MatchBool rise (IsStrictlyIncreasing ns) (IsStrictlyIncreasing ns → ⊥)
    → has_twice pages ≡ not rise
twice_in_order pages ns true same order up =
    let sorted = sorted_from_strictly_increasing ns up in
    let apart : IsDistinct (λ x y. x == y) ns = IsDistinct-from_apart (λ x y. x == y) ns (λ i j d lt in_range. let below : get_or ns i d < get_or ns j d = below_from_sorted ns i j d sorted lt in_range in ne_eqb (get_or ns i d) (get_or ns j d) (λ e. omega arith)) in
    never_twice pages (IsDistinct-IsPermutation (λ x y. x == y) flipped ns (numbers_of pages) (IsPermutation-sym (numbers_of pages) ns same) apart)
twice_in_order pages ns false same order not_up =
    ⊎_elim
    (λ yes. yes)
    (λ no. absurd (not_up (IsStrictlyIncreasing-from_distinct ns order (IsDistinct-IsPermutation (λ x y. x == y) flipped (numbers_of pages) ns same (distinct pages no)))))
    (cases_Bool (has_twice pages))

-- the first of some pages is there again, or one behind it
pub twice_from : (pages : List (ℕ × Bor (List ℕ))) (k : ℕ) (d : ℕ × Bor (List ℕ)) → k < length pages
    → has_twice (lent (drop k pages)) ≡ (list_any (λ x. x.0 == (get_or pages k d).0) (drop (k + 1) pages) || has_twice (lent (drop (k + 1) pages)))
twice_from pages k d lt =
    ap (λ (x : List (ℕ × Bor (List ℕ))). has_twice (lent x)) (drop-cons pages k d lt ∙ ap (λ (j : ℕ). get_or pages k d ∷ drop j pages) (let e : suc k ≡ k + 1 = omega arith in e))
    ∙ ap (λ b. b || has_twice (lent (drop (k + 1) pages)))
    (supplied_any (lent (drop (k + 1) pages)) (get_or pages k d).0 ∙ ap (list_any (λ q. q == (get_or pages k d).0)) (numbers_lent (drop (k + 1) pages)) ∙ any_map (λ x. x.0) (λ q. q == (get_or pages k d).0) (drop (k + 1) pages))

-- ---- a hole

pub misses_same : (ns ms : List ℕ) (old_size size : ℕ) (b : Bool) → IsPermutation ns ms → Misses ms old_size size b → Misses ns old_size size b
misses_same ns ms old_size size true same h = (h.0, h.1, h.2, list_any-IsPermutation (λ q. q == h.0) ns ms same ∙ h.3)
misses_same ns ms old_size size false same h = λ p a b. list_any-IsPermutation (λ q. q == p) ns ms same ∙ h p a b

any_range_all : (P : ℕ → Bool) (from n : ℕ) → ((p : ℕ) → from ≤ p → p < from + n → P p ≡ true) → list_any (λ p. not (P p)) (range_with_len from n) ≡ false
any_range_all P from zero h = refl
any_range_all P from (suc n) h =
    ap (λ b. not b || list_any (λ p. not (P p)) (range_with_len (from + 1) n)) (h from (omega arith) (omega arith))
    ∙ any_range_all P (from + 1) n (λ p a b. h p (omega arith) (omega arith))

any_range_some : (P : ℕ → Bool) (from n p : ℕ) → from ≤ p → p < from + n → P p ≡ false → list_any (λ p. not (P p)) (range_with_len from n) ≡ true
any_range_some P from zero p a b is = absurd (omega arith)
any_range_some P from (suc n) p a b is =
    ⊎_elim
    (λ e. ap (λ b. not b || list_any (λ q. not (P q)) (range_with_len (from + 1) n)) (ap P e ∙ is))
    (λ ne. ap (λ b. not (P from) || b) (any_range_some P (from + 1) n p (omega arith) (omega arith) is) ∙ or-true (not (P from)))
    (cases_eq from p)

pub hole_by_numbers : (pages : Pages) (old_size size : ℕ) (b : Bool) → Misses (numbers_of pages) old_size size b → has_hole pages old_size size ≡ b
hole_by_numbers pages old_size size true h = any_range_some (λ p. is_some (supplied pages p)) (old_size + 1) (size - old_size) h.0 (omega arith) (omega arith) (supplied_any pages h.0 ∙ h.3)
hole_by_numbers pages old_size size false h = any_range_all (λ p. is_some (supplied pages p)) (old_size + 1) (size - old_size) (λ p a b. supplied_any pages p ∙ h p (omega arith) (omega arith))

-- what a search finds among numbers in order
pub search_none : (ns : List ℕ) (x : ℕ) (r : Result ℕ ℕ) → IsBinarySearchResult (λ y. nat_cmp y x) ns r → IsNonDecreasing ns → is_err r ≡ true → list_any (λ q. q == x) ns ≡ false
search_none ns x r is order err = none r (searched ns x r is (λ i j a b. order i j 0 a b)) err
  where
    none : (r : Result ℕ ℕ) → MatchResult r (λ i. (i < length ns) × (get_or ns i 0 ≡ x)) (λ i. (i ≤ length ns) × ((k : ℕ) → k < i → get_or ns k 0 < x) × ((k : ℕ) → i ≤ k → k < length ns → x < get_or ns k 0))
        → is_err r ≡ true → list_any (λ q. q == x) ns ≡ false
    none (Ok i) found bad = absurd (true≢false (sym bad))
    none (Err i) found bad = list_any_none (λ q. q == x) ns (λ k d lt. let at : get_or ns k d ≡ get_or ns k 0 = get_or_default_zero ns k d lt in ne_eqb (get_or ns k d) x (λ e. ⊎_elim (λ a. omega (arith, found.1 k a)) (λ b. omega (arith, found.2 k b lt)) (cases_lt k i)))

-- ---- first refusals

pub skip : {A : Type 0} → (b : Bool) (x y : A) → b ≡ false → cond b x y ≡ y
skip true x y h = absurd (true≢false h)
skip false x y h = refl

pub hit : {A : Type 0} → (b : Bool) (x y : A) → b ≡ true → cond b x y ≡ x
hit true x y h = refl
hit false x y h = absurd (true≢false (sym h))
