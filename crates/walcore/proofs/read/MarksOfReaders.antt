-- Open readers, their tokens, and their marks in a core.
use Rattle.walcore.proofs.Words.{AreTogether, List, None, Option, Reader, Some, [], ap, arith, cases_eq, cases_lt, cond, get_or, get_or-append-add, get_or-set_other, get_or-set_same, get_or_append_left, get_or_past, has_mark, length, length-append, nat_tests, refl, remove, set, slice_get, subst, suc, sum_by, sum_by-cons, sum_by-remove, sum_by-set, sum_by_push, sym, times, zero, ℕ, ⊎_elim, ◌++◌, ◌+◌, ◌<◌, ◌==◌, ◌∙◌, ◌∷◌, ◌≡◌, ◌≢◌}

-- ---- marks

pub removed : (xs ys : List ℕ) (i mark m : ℕ) → i < length xs → get_or xs i 0 ≡ mark → ys ≡ remove xs i → times m xs ≡ times m ys + cond (mark == m) 1 0
removed xs ys i mark m h e f =
    subst (λ z. times m xs ≡ times m z + cond (mark == m) 1 0) (sym f)
    (subst (λ z. times m xs ≡ times m (remove xs i) + cond (z == m) 1 0) e (sym (sum_by-remove (λ x. cond (x == m) 1 0) xs i 0 h)))

pub apart_one : (x m : ℕ) → x ≢ m → let none : ℕ = 0 in cond (x == m) 1 none ≡ none
apart_one x m h = grind (arith, nat_tests)

pub none_times : (m : ℕ) (xs : List ℕ) → ((k : ℕ) → k < length xs → get_or xs k 0 ≢ m) → times m xs ≡ 0
none_times m [] h = refl
none_times m (x ∷ xs) h =
    let a = apart_one x m (h 0 (omega arith)) in
    let b = none_times m xs (λ k l. h (suc k) (omega arith)) in
    sum_by-cons (λ y. cond (y == m) 1 0) x xs ∙ omega (arith, a, b)

pub same_one : (m : ℕ) → let one : ℕ = 1 in cond (m == m) one 0 ≡ one
same_one m = grind (arith, nat_tests)

-- ---- tokens

-- a slot with a token in it
pub at_slot : {X : Type 0} (xs : List (Option X)) (n : ℕ) (x : X) → slice_get xs n ≡ Some (Some x) → (n < length xs) × (get_or xs n None ≡ Some x)
at_slot [] n x h = absurd (cc h)
at_slot (y ∷ xs) zero x h = (omega arith, cc)
at_slot (y ∷ xs) (suc n) x h = let r = at_slot xs n x h in (let l = r.0 in omega arith, r.1)

-- the number of a token that is there is that of an open reader
pub bound_at : (R : ℕ → Reader → Type 0) (place : Option ℕ) (slot : Option Reader) (r : Reader) → slot ≡ Some r → AreTogether R place slot → (i : ℕ) × (place ≡ Some i) × R i r
bound_at R (Some i) (Some x) r e h = (i, refl, subst (λ (y : Reader). R i y) (let f : x ≡ r = cc in f) h)
bound_at R (Some i) None r e h = absurd (cc e)
bound_at R None (Some x) r e h = absurd h
bound_at R None None r e h = absurd (cc e)

pub together_map : (R S : ℕ → Reader → Type 0) → ((i : ℕ) (r : Reader) → R i r → S i r) → (place : Option ℕ) (slot : Option Reader) → AreTogether R place slot → AreTogether S place slot
together_map R S f None None h = tt
together_map R S f (Some i) (Some r) h = f i r h
together_map R S f None (Some r) h = absurd h
together_map R S f (Some i) None h = absurd h

module _ {X : Type 0} (xs : List (Option X)) (x : X) (n : ℕ) where
  pushed_low : n < length xs → get_or (xs ++ Some x ∷ []) n None ≡ get_or xs n None
  pushed_low lt = get_or_append_left xs (Some x ∷ []) None n lt

  pushed_at : n ≡ length xs → get_or (xs ++ Some x ∷ []) n None ≡ Some x
  pushed_at e = ap (λ k. get_or (xs ++ Some x ∷ []) k None) (let f : n ≡ length xs + 0 = omega arith in f) ∙ get_or-append-add xs (Some x ∷ []) 0 None

  pushed_past : length xs < n → get_or (xs ++ Some x ∷ []) n None ≡ None
  pushed_past lt = get_or_past (xs ++ Some x ∷ []) n None (omega (arith, length-append xs (Some x ∷ [])))

module _ (R : ℕ → Reader → Type 0) (places : List (Option ℕ)) (slots : List (Option Reader)) (count : length slots ≡ length places)
    (all : (n : ℕ) → AreTogether R (get_or places n None) (get_or slots n None)) where
  by : (n : ℕ) (p p_new : Option ℕ) (t t_new : Option Reader) → p_new ≡ p → t_new ≡ t → AreTogether R p t → AreTogether R p_new t_new
  by n p p_new t t_new e f h = subst (λ (x : Option ℕ). AreTogether R x t_new) (sym e) (subst (λ (y : Option Reader). AreTogether R p y) (sym f) h)

  -- a reader more
  pub together_push : (i : ℕ) (r : Reader) → R i r → (n : ℕ) → AreTogether R (get_or (places ++ Some i ∷ []) n None) (get_or (slots ++ Some r ∷ []) n None)
  together_push i r h n = ⊎_elim
      (λ lt. by n (get_or places n None) (get_or (places ++ Some i ∷ []) n None) (get_or slots n None) (get_or (slots ++ Some r ∷ []) n None) (pushed_low places i n lt) (pushed_low slots r n (omega arith)) (all n))
      (λ ge. ⊎_elim
      (λ e. by n (Some i) (get_or (places ++ Some i ∷ []) n None) (Some r) (get_or (slots ++ Some r ∷ []) n None) (pushed_at places i n e) (pushed_at slots r n (e ∙ sym count)) h)
      (λ ne. by n None (get_or (places ++ Some i ∷ []) n None) None (get_or (slots ++ Some r ∷ []) n None) (pushed_past places i n (omega arith)) (pushed_past slots r n (omega arith)) tt)
      (cases_eq n (length places)))
      (cases_lt n (length places))

  -- a reader less
  pub together_set : (k : ℕ) → k < length places → (n : ℕ) → AreTogether R (get_or (set places k None) n None) (get_or (set slots k None) n None)
  together_set k lt n = ⊎_elim
      (λ e. by n None (get_or (set places k None) n None) None (get_or (set slots k None) n None)
      (ap (λ j. get_or (set places k None) j None) e ∙ get_or-set_same places k None None lt) (ap (λ j. get_or (set slots k None) j None) e ∙ get_or-set_same slots k None None (omega arith)) tt)
      (λ ne. by n (get_or places n None) (get_or (set places k None) n None) (get_or slots n None) (get_or (set slots k None) n None)
      (get_or-set_other places k n None None ne) (get_or-set_other slots k n None None ne) (all n))
      (cases_eq n k)

-- ---- marks and tokens

-- a token is taken out
pub emptied : (tokens : List (Option Reader)) (n m : ℕ) (r : Reader) → slice_get tokens n ≡ Some (Some r) → sum_by (has_mark m) tokens ≡ sum_by (has_mark m) (set tokens n None) + cond (r.mark == m) 1 0
emptied tokens n m r h =
    let s = at_slot tokens n r h in
    let e = sum_by-set (has_mark m) tokens n None None s.0 in
    let f : has_mark m (get_or tokens n None) ≡ cond (r.mark == m) 1 0 = ap (has_mark m) s.1 in omega (arith, e, f)

-- a token's mark stands among the marks
pub mark_there : (marks : List ℕ) (tokens : List (Option Reader)) (n : ℕ) (r : Reader) → ((m : ℕ) → times m marks ≡ sum_by (has_mark m) tokens) → slice_get tokens n ≡ Some (Some r) → 0 < times r.mark marks
mark_there marks tokens n r same h = omega (arith, emptied tokens n r.mark r h, same r.mark, same_one r.mark)

-- one more of each
pub mark_pushed : (marks : List ℕ) (tokens : List (Option Reader)) (r : Reader) → ((m : ℕ) → times m marks ≡ sum_by (has_mark m) tokens) → (m : ℕ) → times m (marks ++ r.mark ∷ []) ≡ sum_by (has_mark m) (tokens ++ Some r ∷ [])
mark_pushed marks tokens r same m = sum_by_push (λ x. cond (x == m) 1 0) marks r.mark ∙ ap (λ k. k + cond (r.mark == m) 1 0) (same m) ∙ sym (sum_by_push (has_mark m) tokens (Some r))
