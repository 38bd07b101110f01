-- What a filter keeps of a list.
use Rattle.std.proofs.Common.{◌≡◌, ◌≤◌, ⊎_elim, ℕ, zero, suc, Bool, true, false, cond, not, List, [], ◌∷◌, ◌++◌, slice_get, Some, refl, sym, ap, ◌∙◌, subst, arith, Contains, count_by}
use Rattle.std.specs.List.{AllZip, filter}
use Rattle.std.proofs.lemmas.Bool.{cases_Bool}
use Rattle.std.proofs.lemmas.List.Elements.{All-filter, All-contains_itself, filter_passes}
use Rattle.std.proofs.lemmas.List.Filters.{sum_by-filter_both}
use Rattle.sqindex.proofs.Places.{some_once, of_all, place_of}

module _ {X : Type 0} where
  pub at_true : (b : Bool) (x y : List X) → b ≡ true → cond b x y ≡ x
  at_true b x y is = ap (λ (c : Bool). cond c x y) is

  pub at_false : (b : Bool) (x y : List X) → b ≡ false → cond b x y ≡ y
  at_false b x y is = ap (λ (c : Bool). cond c x y) is

  -- an element that passes is kept, and one that is kept was there
  pub kept_at : (p : X → Bool) (xs : List X) (i : ℕ) (x : X) → slice_get xs i ≡ Some x → p x ≡ true → (j : ℕ) × (slice_get (filter p xs) j ≡ Some x)
  kept_at p [] i x at good = absurd (cc)
  kept_at p (z ∷ xs) zero x at good =
      let first : filter p (z ∷ xs) ≡ z ∷ filter p xs = at_true (p z) (z ∷ filter p xs) (filter p xs) (ap p (some_once z x at) ∙ good) in
      (0, subst (λ (l : List X). slice_get l 0 ≡ Some x) (sym first) at)
  kept_at p (z ∷ xs) (suc i) x at good =
      let rest = kept_at p xs i x at good in
      ⊎_elim
      (λ (is : p z ≡ true). (suc rest.0, subst (λ (l : List X). slice_get l (suc rest.0) ≡ Some x) (sym (at_true (p z) (z ∷ filter p xs) (filter p xs) is)) rest.1))
      (λ (is : p z ≡ false). (rest.0, subst (λ (l : List X). slice_get l rest.0 ≡ Some x) (sym (at_false (p z) (z ∷ filter p xs) (filter p xs) is)) rest.1))
      (cases_Bool (p z))

  pub kept_from : (p : X → Bool) (xs : List X) (j : ℕ) (x : X) → slice_get (filter p xs) j ≡ Some x → ((i : ℕ) × (slice_get xs i ≡ Some x)) × (p x ≡ true)
  kept_from p xs j x at = (
    place_of xs x (of_all (Contains xs) (filter p xs) j x (All-filter p (Contains xs) xs (All-contains_itself xs)) at),
    of_all (λ y. p y ≡ true) (filter p xs) j x (filter_passes p xs) at,
  )

  pub all_kept : (p : X → Bool) (xs : List X) → ((x : X) → p x ≡ true) → filter p xs ≡ xs
  all_kept p [] good = refl
  all_kept p (x ∷ xs) good = at_true (p x) (x ∷ filter p xs) (filter p xs) (good x) ∙ ap (λ l. x ∷ l) (all_kept p xs good)

  pub none_kept : (p : X → Bool) (xs : List X) → ((i : ℕ) (x : X) → slice_get xs i ≡ Some x → p x ≡ false) → filter p xs ≡ []
  none_kept p [] bad = refl
  none_kept p (x ∷ xs) bad = at_false (p x) (x ∷ filter p xs) (filter p xs) (bad 0 x refl) ∙ none_kept p xs (λ i y at. bad (suc i) y at)

  pub same_kept : (p q : X → Bool) (xs : List X) → ((i : ℕ) (x : X) → slice_get xs i ≡ Some x → p x ≡ q x) → filter p xs ≡ filter q xs
  same_kept p q [] same = refl
  same_kept p q (x ∷ xs) same = ap (λ (b : Bool). cond b (x ∷ filter p xs) (filter p xs)) (same 0 x refl) ∙ ap (λ (l : List X). cond (q x) (x ∷ l) l) (same_kept p q xs (λ i y at. same (suc i) y at))

  -- of those that are kept no more pass a test
  pub fewer_kept : (t p : X → Bool) (xs : List X) → count_by t (filter p xs) ≤ count_by t xs
  fewer_kept t p xs = omega (arith, sum_by-filter_both p (λ x. not (p x)) (λ x. refl) (λ x. cond (t x) 1 0) xs)

pub zip_append : {X Y : Type 0} (R : X → Y → Type 0) (xs us : List X) (ys vs : List Y) → AllZip R xs ys → AllZip R us vs → AllZip R (xs ++ us) (ys ++ vs)
zip_append R [] us [] vs h k = k
zip_append R [] us (y ∷ ys) vs h k = absurd h
zip_append R (x ∷ xs) us [] vs h k = absurd h
zip_append R (x ∷ xs) us (y ∷ ys) vs h k = (h.0, zip_append R xs us ys vs h.1 k)
