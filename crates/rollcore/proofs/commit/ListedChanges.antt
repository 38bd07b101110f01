-- The changes of a commit, as they are listed, are those that it makes.
use Rattle.rollcore.proofs.Words.{All, All-permutation, AllByRecursion, AreChanges, Bool, Change, Contains, Contains-permutation, IsDistinct, IsDistinct-IsPermutation, IsFaultless, IsNonDecreasing, IsNonDecreasingBy, IsPermutation, IsPermutation-map, IsStrictlyIncreasing, IsStrictlyIncreasing-from_distinct, List, None, Option, Pages, Some, [], ap, append-nil, arith, below_from_sorted, cases_eq, cases_lt, change_at, cond, cut_off, distinct, false, get_or, get_or-append_right, get_or-map, get_or_append_left, get_or_at, if◌then◌else◌, inl, inr, length, length-append, length-map, length_permutation, length_push, map, nat_le, nat_tests, number_at, numbers_of, recorded, refl, sorted_from_strictly_increasing, subst, suc, sum_by, sum_by-cons, supplied, sym, true, zero, zero-add, ℕ, ⊎_elim, ◌++◌, ◌+◌, ◌-◌, ◌<◌, ◌==◌, ◌∙◌, ◌∷◌, ◌≡◌, ◌≢◌, ◌≤◌, ◌⊎◌}
use Rattle.rollcore.specs.internal.Listing.{written}

-- ---- Pages that are there already.

change : (page k : ℕ) → Change
change page k = record { page = page; content = Some k }

written_yes : (old_size n : ℕ) (x : ℕ × List ℕ) (xs : Pages) → x.0 ≤ old_size → written old_size n (x ∷ xs) ≡ change x.0 n ∷ written old_size (n + 1) xs
unfolding change
written_yes old_size n x xs le = grind (arith, nat_tests)

written_no : (old_size n : ℕ) (x : ℕ × List ℕ) (xs : Pages) → old_size < x.0 → written old_size n (x ∷ xs) ≡ written old_size (n + 1) xs
written_no old_size n x xs lt = grind (arith, nat_tests)

-- the change of a page, if it is there already
one : (old_size : ℕ) (x : ℕ × List ℕ) (k : ℕ) → List Change
one old_size x k = if nat_le x.0 old_size then record { page = x.0; content = Some k } ∷ [] else []

-- one page more
more_by : (old_size n : ℕ) (xs : Pages) (x : ℕ × List ℕ) → written old_size n (xs ++ x ∷ []) ≡ written old_size n xs ++ one old_size x (n + length xs)
unfolding one
more_by old_size n [] x =
    let e : n ≡ n + 0 = omega arith in
    ap (λ (k : ℕ). if nat_le x.0 old_size then record { page = x.0; content = Some k } ∷ [] else []) e
more_by old_size n (y ∷ xs) x =
    let place : n + 1 + length xs ≡ n + suc (length xs) = omega arith in
    let rest : written old_size (n + 1) (xs ++ x ∷ []) ≡ written old_size (n + 1) xs ++ one old_size x (n + suc (length xs)) = more_by old_size (n + 1) xs x ∙ ap (λ (k : ℕ). written old_size (n + 1) xs ++ one old_size x k) place in
    ⊎_elim
    (λ above. written_no old_size n y (xs ++ x ∷ []) above ∙ rest ∙ ap (λ (l : List Change). l ++ one old_size x (n + suc (length xs))) (sym (written_no old_size n y xs above)))
    (λ within. written_yes old_size n y (xs ++ x ∷ []) within ∙ ap (λ (l : List Change). change y.0 n ∷ l) rest ∙ ap (λ (l : List Change). l ++ one old_size x (n + suc (length xs))) (sym (written_yes old_size n y xs within)))
    (cases_lt old_size y.0)

pub more_yes : (old_size : ℕ) (xs : Pages) (x : ℕ × List ℕ) (k : ℕ) → length xs ≡ k → x.0 ≤ old_size → written old_size 0 (xs ++ x ∷ []) ≡ written old_size 0 xs ++ record { page = x.0; content = Some k } ∷ []
unfolding one
more_yes old_size xs x k len le =
    let e : 0 + length xs ≡ k = omega arith in
    let here : one old_size x (0 + length xs) ≡ record { page = x.0; content = Some (0 + length xs) } ∷ [] = grind (arith, nat_tests) in
    more_by old_size 0 xs x ∙ ap (λ (l : List Change). written old_size 0 xs ++ l) (here ∙ ap (λ (j : ℕ). record { page = x.0; content = Some j } ∷ []) e)

pub more_no : (old_size : ℕ) (xs : Pages) (x : ℕ × List ℕ) → old_size < x.0 → written old_size 0 (xs ++ x ∷ []) ≡ written old_size 0 xs
unfolding one
more_no old_size xs x lt =
    let here : one old_size x (0 + length xs) ≡ [] = grind (arith, nat_tests) in
    more_by old_size 0 xs x ∙ ap (λ (l : List Change). written old_size 0 xs ++ l) here ∙ append-nil (written old_size 0 xs)

-- ---- How many there are.

abbrev pub there : (old_size : ℕ) → Pages → ℕ
there old_size xs = sum_by (λ x. cond (nat_le x.0 old_size) 1 0) xs

there_yes : (old_size : ℕ) (x : ℕ × List ℕ) (xs : Pages) → x.0 ≤ old_size → there old_size (x ∷ xs) ≡ 1 + there old_size xs
there_yes old_size x xs le =
    let is : ◌≡◌ {A = ℕ} (cond (nat_le x.0 old_size) 1 0) 1 = grind (arith, nat_tests) in
    sum_by-cons (λ (y : ℕ × List ℕ). cond (nat_le y.0 old_size) 1 0) x xs ∙ ap (λ (n : ℕ). n + there old_size xs) is

there_no : (old_size : ℕ) (x : ℕ × List ℕ) (xs : Pages) → old_size < x.0 → there old_size (x ∷ xs) ≡ there old_size xs
there_no old_size x xs lt =
    let is : ◌≡◌ {A = ℕ} (cond (nat_le x.0 old_size) 1 0) 0 = grind (arith, nat_tests) in
    sum_by-cons (λ (y : ℕ × List ℕ). cond (nat_le y.0 old_size) 1 0) x xs ∙ ap (λ (n : ℕ). n + there old_size xs) is ∙ zero-add (there old_size xs)

pub written_length : (old_size n : ℕ) (xs : Pages) → length (written old_size n xs) ≡ there old_size xs
written_length old_size n [] = refl
written_length old_size n (x ∷ xs) =
    let rest = written_length old_size (n + 1) xs in
    ⊎_elim
    (λ above. ap (λ (l : List Change). length l) (written_no old_size n x xs above) ∙ rest ∙ sym (there_no old_size x xs above))
    (λ within. ap (λ (l : List Change). length l) (written_yes old_size n x xs within) ∙ ap suc rest ∙ (let e : suc (there old_size xs) ≡ 1 + there old_size xs = omega arith in e) ∙ sym (there_yes old_size x xs within))
    (cases_lt old_size x.0)

flipped : (x y : ℕ) → (x == y) ≡ (y == x)
flipped x y = grind (arith, nat_tests)

-- ---- They are no more than the old pages.

same : (v : ℕ) → Pages → ℕ
same v xs = sum_by (λ x. cond (x.0 == v) 1 0) xs

same_cons : (v : ℕ) (x : ℕ × List ℕ) (xs : Pages) → same v (x ∷ xs) ≡ cond (x.0 == v) 1 0 + same v xs
unfolding same
same_cons v x xs = sum_by-cons (λ (y : ℕ × List ℕ). cond (y.0 == v) 1 0) x xs

same_none : (v : ℕ) (xs : Pages) → AllByRecursion (λ y. (v == y) ≡ false) (numbers_of xs) → same v xs ≡ 0
unfolding same
same_none v [] all = refl
same_none v (x ∷ xs) all =
    let off : (x.0 == v) ≡ false = flipped x.0 v ∙ all.0 in
    same_cons v x xs ∙ ap (λ (b : Bool). cond b 1 0 + same v xs) off ∙ zero-add (same v xs) ∙ same_none v xs all.1

-- of each number there is one page at most
same_few : (v : ℕ) (xs : Pages) → IsDistinct (λ x y. x == y) (numbers_of xs) → same v xs ≤ 1
unfolding IsDistinct same
same_few v [] once = omega arith
same_few v (x ∷ xs) once = ⊎_elim
    (λ e.
    let on : (x.0 == v) ≡ true = grind (arith, nat_tests, e) in
    let none : same v xs ≡ 0 = same_none v xs (subst (λ (n : ℕ). AllByRecursion (λ y. (n == y) ≡ false) (numbers_of xs)) e once.0) in
    let all : same v (x ∷ xs) ≡ 1 + same v xs = same_cons v x xs ∙ ap (λ (b : Bool). cond b 1 0 + same v xs) on in
    omega (arith, all, none))
    (λ ne.
    let off : (x.0 == v) ≡ false = grind (arith, nat_tests, ne) in
    let all : same v (x ∷ xs) ≡ 0 + same v xs = same_cons v x xs ∙ ap (λ (b : Bool). cond b 1 0 + same v xs) off in
    omega (arith, all, same_few v xs once.1))
    (cases_eq x.0 v)

there_cons : (n : ℕ) (x : ℕ × List ℕ) (xs : Pages) → there n (x ∷ xs) ≡ cond (nat_le x.0 n) 1 0 + there n xs
there_cons n x xs = sum_by-cons (λ (y : ℕ × List ℕ). cond (nat_le y.0 n) 1 0) x xs

there_next : (n : ℕ) (xs : Pages) → there (suc n) xs ≡ there n xs + same (suc n) xs
unfolding same
there_next n [] = refl
there_next n (x ∷ xs) =
    let one_more : ◌≡◌ {A = ℕ} (cond (nat_le x.0 (suc n)) 1 0) (cond (nat_le x.0 n) 1 0 + cond (x.0 == suc n) 1 0) = grind (arith, nat_tests) in
    omega (arith, one_more, there_cons (suc n) x xs, there_cons n x xs, same_cons (suc n) x xs, there_next n xs)

there_zero : (xs : Pages) → ((k : ℕ) → k < length xs → 1 ≤ number_at xs k) → there 0 xs ≡ 0
there_zero [] some = refl
there_zero (x ∷ xs) some =
    let here : 1 ≤ x.0 = some 0 (omega arith) in
    let off : ◌≡◌ {A = ℕ} (cond (nat_le x.0 0) 1 0) 0 = grind (arith, nat_tests) in
    omega (arith, off, there_cons 0 x xs, there_zero xs (λ k lt. some (suc k) (omega arith)))

there_few : (n : ℕ) (xs : Pages) → ((k : ℕ) → k < length xs → 1 ≤ number_at xs k) → IsDistinct (λ x y. x == y) (numbers_of xs) → there n xs ≤ n
there_few zero xs some once = omega (arith, there_zero xs some)
there_few (suc n) xs some once = omega (arith, there_next n xs, same_few (suc n) xs once, there_few n xs some once)

pub recorded_few : (old_size page_size : ℕ) (pages : Pages) (size : ℕ) → IsFaultless old_size page_size pages size → recorded pages old_size size ≤ old_size + (old_size - size)
recorded_few old_size page_size pages size right = omega (arith, there_few old_size pages right.above_zero (distinct pages right.once))

-- what each of them is
pub record IsWritten (pages : Pages) (old_size : ℕ) (c : Change) : Type 0 where
  pub place : ℕ
  pub content : c.content ≡ Some place
  pub within : place < length pages
  pub number : number_at pages place ≡ c.page
  pub there : c.page ≤ old_size

all_none : (pages : Pages) (old_size : ℕ) → All (IsWritten pages old_size) []
all_none pages old_size k d lt = absurd (omega arith)

all_one : (pages : Pages) (old_size : ℕ) (c : Change) (cs : List Change) → IsWritten pages old_size c → All (IsWritten pages old_size) cs → All (IsWritten pages old_size) (c ∷ cs)
all_one pages old_size c cs is all zero d lt = is
all_one pages old_size c cs is all (suc k) d lt = all k d (omega arith)

-- pages that stand behind n others
abbrev Behind : (pages : Pages) (n : ℕ) → Pages → Type 0
Behind pages n xs = (k : ℕ) → k < length xs → (n + k < length pages) × (number_at pages (n + k) ≡ number_at xs k)

behind_rest : (pages : Pages) (n : ℕ) (x : ℕ × List ℕ) (xs : Pages) → Behind pages n (x ∷ xs) → Behind pages (n + 1) xs
behind_rest pages n x xs behind k lt =
    let e : n + suc k ≡ n + 1 + k = omega arith in
    let next = behind (suc k) (omega arith) in (omega (arith, next.0), ap (λ (j : ℕ). number_at pages j) (sym e) ∙ next.1)

written_each : (pages : Pages) (old_size n : ℕ) (xs : Pages) → Behind pages n xs → All (IsWritten pages old_size) (written old_size n xs)
unfolding change
written_each pages old_size n [] behind = all_none pages old_size
written_each pages old_size n (x ∷ xs) behind =
    let rest : All (IsWritten pages old_size) (written old_size (n + 1) xs) = written_each pages old_size (n + 1) xs (behind_rest pages n x xs behind) in
    ⊎_elim
    (λ above. subst (λ (l : List Change). All (IsWritten pages old_size) l) (sym (written_no old_size n x xs above)) rest)
    (λ within.
    let here = behind 0 (omega arith) in
    let e : n + 0 ≡ n = omega arith in
    subst (λ (l : List Change). All (IsWritten pages old_size) l) (sym (written_yes old_size n x xs within)) (all_one pages old_size (change x.0 n) (written old_size (n + 1) xs)
    (record { place = n; content = refl; within = omega (arith, here.0); number = ap (λ (j : ℕ). number_at pages j) (sym e) ∙ here.1; there = within }) rest))
    (cases_lt old_size x.0)

pub written_all : (pages : Pages) (old_size : ℕ) → All (IsWritten pages old_size) (written old_size 0 pages)
written_all pages old_size = written_each pages old_size 0 pages (λ k lt. let e : k ≡ 0 + k = omega arith in (omega arith, ap (λ (j : ℕ). number_at pages j) (sym e)))

abbrev pages_of : List Change → List ℕ
pages_of cs = map (λ (c : Change). c.page) cs

contains_next : (x : ℕ) (xs : List ℕ) (p : ℕ) → Contains xs p → Contains (x ∷ xs) p
contains_next x xs p has = (suc has.0, omega (arith, has.1), has.2)

-- each page that is there already is among them
written_has : (old_size n : ℕ) (xs : Pages) (k : ℕ) → k < length xs → number_at xs k ≤ old_size → Contains (pages_of (written old_size n xs)) (number_at xs k)
unfolding change
written_has old_size n [] k lt le = absurd (omega arith)
written_has old_size n (x ∷ xs) zero lt le =
    subst (λ (l : List Change). Contains (pages_of l) x.0) (sym (written_yes old_size n x xs le)) (0, omega arith, refl)
written_has old_size n (x ∷ xs) (suc k) lt le =
    let rest = written_has old_size (n + 1) xs k (omega arith) le in
    ⊎_elim
    (λ above. subst (λ (l : List Change). Contains (pages_of l) (number_at xs k)) (sym (written_no old_size n x xs above)) rest)
    (λ within. subst (λ (l : List Change). Contains (pages_of l) (number_at xs k)) (sym (written_yes old_size n x xs within)) (contains_next x.0 (pages_of (written old_size (n + 1) xs)) (number_at xs k) rest))
    (cases_lt old_size x.0)

apart_written : (Q : ℕ → Type 0) (old_size n : ℕ) (xs : Pages) → AllByRecursion Q (numbers_of xs) → AllByRecursion Q (pages_of (written old_size n xs))
unfolding change
apart_written Q old_size n [] all = tt
apart_written Q old_size n (x ∷ xs) all = ⊎_elim
    (λ above. subst (λ (l : List Change). AllByRecursion Q (pages_of l)) (sym (written_no old_size n x xs above)) (apart_written Q old_size (n + 1) xs all.1))
    (λ within. subst (λ (l : List Change). AllByRecursion Q (pages_of l)) (sym (written_yes old_size n x xs within)) (all.0, apart_written Q old_size (n + 1) xs all.1))
    (cases_lt old_size x.0)

written_once : (old_size n : ℕ) (xs : Pages) → IsDistinct (λ x y. x == y) (numbers_of xs) → IsDistinct (λ x y. x == y) (pages_of (written old_size n xs))
unfolding change IsDistinct
written_once old_size n [] once = tt
written_once old_size n (x ∷ xs) once = ⊎_elim
    (λ above. subst (λ (l : List Change). IsDistinct (λ x y. x == y) (pages_of l)) (sym (written_no old_size n x xs above)) (written_once old_size (n + 1) xs once.1))
    (λ within. subst (λ (l : List Change). IsDistinct (λ x y. x == y) (pages_of l)) (sym (written_yes old_size n x xs within)) (apart_written (λ y. (x.0 == y) ≡ false) old_size (n + 1) xs once.0, written_once old_size (n + 1) xs once.1))
    (cases_lt old_size x.0)

-- ---- Pages that are cut off.

pub length-cut_off : (size n : ℕ) → length (cut_off size n) ≡ n
length-cut_off size zero = refl
length-cut_off size (suc n) = omega (arith, length_push (cut_off size n) (record { page = size + suc n; content = None }), length-cut_off size n)

pub cut_off_more : (size p : ℕ) → size ≤ p → cut_off size (p + 1 - size) ≡ cut_off size (p - size) ++ record { page = p + 1; content = None } ∷ []
cut_off_more size p le =
    let next : p + 1 - size ≡ suc (p - size) = omega arith in
    let page : size + suc (p - size) ≡ p + 1 = omega arith in
    ap (λ (n : ℕ). cut_off size n) next ∙ ap (λ (q : ℕ). cut_off size (p - size) ++ record { page = q; content = None } ∷ []) page

cut : ℕ → Change
cut page = record { page = page; content = None }

cut_off_at : (size n i : ℕ) → i < n → change_at (cut_off size n) i ≡ cut (size + suc i)
unfolding cut
cut_off_at size zero i lt = absurd (omega arith)
cut_off_at size (suc n) i lt = ⊎_elim
    (λ below. get_or_append_left (cut_off size n) (cut (size + suc n) ∷ []) (record { page = 0; content = None }) i (omega (arith, length-cut_off size n)) ∙ cut_off_at size n i below)
    (λ last. let e : n ≡ i = omega arith in get_or_at (cut_off size n) (cut (size + suc n)) [] (record { page = 0; content = None }) i (length-cut_off size n ∙ e) ∙ ap (λ (k : ℕ). cut (size + suc k)) e)
    (cases_lt i n)

-- ---- All changes.

supplied_number : (pages : Pages) (p : ℕ) (c : List ℕ) → supplied pages p ≡ Some c → (k : ℕ) × (k < length pages) × (number_at pages k ≡ p)
supplied_number [] p c is = absurd (let f : None ≡ Some c = is in cc)
supplied_number (x ∷ pages) p c is = ⊎_elim
    (λ e. (0, omega arith, e))
    (λ ne.
    let miss : cond (x.0 == p) (Some x.1) (supplied pages p) ≡ supplied pages p = grind (arith, nat_tests, ne) in
    let rest = supplied_number pages p c (sym miss ∙ is) in (suc rest.0, omega (arith, rest.1), rest.2))
    (cases_eq x.0 p)

module _ (pages : Pages) (old_size page_size size : ℕ) (right : IsFaultless old_size page_size pages size) (sorted : List Change)
    (moved : IsPermutation (written old_size 0 pages) sorted) (order : IsNonDecreasingBy (λ (c : Change). c.page) sorted) where
  each : All (IsWritten pages old_size) sorted
  each = All-permutation (IsWritten pages old_size) (written old_size 0 pages) sorted moved (written_all pages old_size)

  each_at : (i : ℕ) → i < length sorted → IsWritten pages old_size (change_at sorted i)
  each_at i lt = each i (record { page = 0; content = None }) lt

  page_at : (i d : ℕ) → i < length sorted → get_or (pages_of sorted) i d ≡ (change_at sorted i).page
  page_at i d lt = get_or-map (λ (c : Change). c.page) sorted i (record { page = 0; content = None }) d lt

  non_decreasing : IsNonDecreasing (pages_of sorted)
  non_decreasing i j d le lt =
      let within : j < length sorted = omega (arith, length-map sorted (λ (c : Change). c.page)) in
      let up : (change_at sorted i).page ≤ (change_at sorted j).page = order i j (record { page = 0; content = None }) le within in
      omega (arith, page_at i d (omega arith), page_at j d within)

  strictly : IsStrictlyIncreasing (pages_of sorted)
  strictly = IsStrictlyIncreasing-from_distinct (pages_of sorted) non_decreasing
      (IsDistinct-IsPermutation (λ x y. x == y) flipped (pages_of (written old_size 0 pages)) (pages_of sorted) (IsPermutation-map (λ (c : Change). c.page) (written old_size 0 pages) sorted moved) (written_once old_size 0 pages (distinct pages right.once)))

  rising_sorted : (i j : ℕ) → i < j → j < length sorted → (change_at sorted i).page < (change_at sorted j).page
  rising_sorted i j lt within =
      let up : get_or (pages_of sorted) i 0 < get_or (pages_of sorted) j 0 = below_from_sorted (pages_of sorted) i j 0 (sorted_from_strictly_increasing (pages_of sorted) strictly) lt (omega (arith, length-map sorted (λ (c : Change). c.page))) in
      omega (arith, page_at i 0 (omega arith), page_at j 0 within)

  least : (i : ℕ) → i < length sorted → (1 ≤ (change_at sorted i).page) × ((change_at sorted i).page ≤ size)
  least i lt = let is = each_at i lt in (omega (arith, right.above_zero is.place is.within, is.number), omega (arith, right.within is.place is.within, is.number))

  length_all : length (sorted ++ cut_off size (old_size - size)) ≡ length sorted + (old_size - size)
  length_all = omega (arith, length-append sorted (cut_off size (old_size - size)), length-cut_off size (old_size - size))

  at_left : (i : ℕ) → i < length sorted → change_at (sorted ++ cut_off size (old_size - size)) i ≡ change_at sorted i
  at_left i lt = get_or_append_left sorted (cut_off size (old_size - size)) (record { page = 0; content = None }) i lt

  at_right : (i : ℕ) → length sorted ≤ i → i < length sorted + (old_size - size) → change_at (sorted ++ cut_off size (old_size - size)) i ≡ cut (size + suc (i - length sorted))
  at_right i le lt = get_or-append_right sorted (cut_off size (old_size - size)) (length sorted) i (record { page = 0; content = None }) refl le ∙ cut_off_at size (old_size - size) (i - length sorted) (omega arith)

  page_right : (i : ℕ) → length sorted ≤ i → i < length sorted + (old_size - size) → (change_at (sorted ++ cut_off size (old_size - size)) i).page ≡ size + suc (i - length sorted)
  unfolding cut
  page_right i le lt = ap (λ (c : Change). c.page) (at_right i le lt)

  page_left : (i : ℕ) → i < length sorted → (change_at (sorted ++ cut_off size (old_size - size)) i).page ≡ (change_at sorted i).page
  page_left i lt = ap (λ (c : Change). c.page) (at_left i lt)

  rising_all : (i j : ℕ) → i < j → j < length (sorted ++ cut_off size (old_size - size)) → (change_at (sorted ++ cut_off size (old_size - size)) i).page < (change_at (sorted ++ cut_off size (old_size - size)) j).page
  rising_all i j lt within = ⊎_elim
      (λ j_left. omega (arith, rising_sorted i j lt j_left, page_left i (omega arith), page_left j j_left))
      (λ j_right. ⊎_elim
      (λ i_left. omega (arith, (least i i_left).1, page_left i i_left, page_right j j_right (omega (arith, length_all))))
      (λ i_right. omega (arith, page_right i i_right (omega (arith, length_all)), page_right j j_right (omega (arith, length_all))))
      (cases_lt i (length sorted)))
      (cases_lt j (length sorted))

  within_all : (i : ℕ) → i < length (sorted ++ cut_off size (old_size - size)) → (1 ≤ (change_at (sorted ++ cut_off size (old_size - size)) i).page) × ((change_at (sorted ++ cut_off size (old_size - size)) i).page ≤ old_size)
  within_all i lt = ⊎_elim
      (λ left. let l = least i left in let is = each_at i left in (omega (arith, l.0, page_left i left), omega (arith, is.there, page_left i left)))
      (λ right_. let p = page_right i right_ (omega (arith, length_all)) in (omega (arith, p), omega (arith, p, length_all)))
      (cases_lt i (length sorted))

  content_all : (i k : ℕ) → i < length (sorted ++ cut_off size (old_size - size)) → (change_at (sorted ++ cut_off size (old_size - size)) i).content ≡ Some k
      → (k < length pages) × ((get_or pages k (0, [])).0 ≡ (change_at (sorted ++ cut_off size (old_size - size)) i).page) × ((change_at (sorted ++ cut_off size (old_size - size)) i).page ≤ size)
  unfolding cut
  content_all i k lt has = ⊎_elim
      (λ left.
      let is = each_at i left in
      let both : Some is.place ≡ Some k = sym is.content ∙ ap (λ (c : Change). c.content) (sym (at_left i left)) ∙ has in
      let same : is.place ≡ k = cc both in
      let l = least i left in
      (omega (arith, is.within), ap (λ (j : ℕ). number_at pages j) (sym same) ∙ is.number ∙ sym (page_left i left), omega (arith, l.1, page_left i left)))
      (λ right_. absurd (let bad : None ≡ Some k = sym (ap (λ (c : Change). c.content) (at_right i right_ (omega (arith, length_all)))) ∙ has in cc))
      (cases_lt i (length sorted))

  cut_all : (i : ℕ) → i < length (sorted ++ cut_off size (old_size - size)) → (change_at (sorted ++ cut_off size (old_size - size)) i).content ≡ None → size < (change_at (sorted ++ cut_off size (old_size - size)) i).page
  cut_all i lt has = ⊎_elim
      (λ left.
      let is = each_at i left in
      absurd (let bad : Some is.place ≡ None = sym is.content ∙ ap (λ (c : Change). c.content) (sym (at_left i left)) ∙ has in cc))
      (λ right_. omega (arith, page_right i right_ (omega (arith, length_all))))
      (cases_lt i (length sorted))

  has_sorted : (p : ℕ) → p ≤ old_size → (k : ℕ) → k < length pages → number_at pages k ≡ p → (i : ℕ) × (i < length sorted) × ((change_at sorted i).page ≡ p)
  has_sorted p le k lt e =
      let has : Contains (pages_of sorted) p = Contains-permutation (pages_of (written old_size 0 pages)) (pages_of sorted) p (IsPermutation-map (λ (c : Change). c.page) (written old_size 0 pages) sorted moved)
      (subst (λ (q : ℕ). Contains (pages_of (written old_size 0 pages)) q) e (written_has old_size 0 pages k lt (omega arith))) in
      let within : has.0 < length sorted = omega (arith, has.1, length-map sorted (λ (c : Change). c.page)) in
      (has.0, within, sym (page_at has.0 p within) ∙ has.2)

  all_all : (p : ℕ) → 1 ≤ p → p ≤ old_size → (supplied pages p ≢ None) ⊎ (size < p) → (i : ℕ) × (i < length (sorted ++ cut_off size (old_size - size))) × ((change_at (sorted ++ cut_off size (old_size - size)) i).page ≡ p)
  all_all p some le (inl given) = by (supplied pages p) refl
    where
      by : (o : Option (List ℕ)) → supplied pages p ≡ o → (i : ℕ) × (i < length (sorted ++ cut_off size (old_size - size))) × ((change_at (sorted ++ cut_off size (old_size - size)) i).page ≡ p)
      by None e = absurd (given e)
      by (Some c) e =
          let found = supplied_number pages p c e in
          let at = has_sorted p le found.0 found.1 found.2 in
          (at.0, omega (arith, at.1, length_all), page_left at.0 at.1 ∙ at.2)
  all_all p some le (inr above) =
      let i : ℕ = length sorted + (p - size - 1) in
      (length sorted + (p - size - 1), omega (arith, length_all), page_right (length sorted + (p - size - 1)) (omega arith) (omega arith) ∙ (let e : size + suc (length sorted + (p - size - 1) - length sorted) ≡ p = omega arith in e))

  pub are_changes : AreChanges pages old_size size (sorted ++ cut_off size (old_size - size))
  are_changes = record {
    rising = rising_all;
    within = within_all;
    content = content_all;
    cut = cut_all;
    all = all_all;
    count = length_all ∙ ap (λ (k : ℕ). k + (old_size - size)) (length_permutation (written old_size 0 pages) sorted moved ∙ written_length old_size 0 pages);
  }
