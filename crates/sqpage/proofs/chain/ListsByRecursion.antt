-- Lists by recursion.
use Rattle.std.proofs.Common.{◌≡◌, ℕ, zero, suc, ◌+◌, ◌⊎◌, List, [], ◌∷◌, ◌++◌, refl, sym, ap, subst, ◌∙◌, inl, inr, arith}
use Rattle.sqpage.specs.Lists.{In, Every, Apart, each_from}

pub in_left : {A : Type 0} (x : A) (xs ys : List A) → In x xs → In x (xs ++ ys)
in_left x [] ys h = absurd h
in_left x (y ∷ xs) ys (inl e) = inl e
in_left x (y ∷ xs) ys (inr h) = inr (in_left x xs ys h)

pub in_right : {A : Type 0} (x : A) (xs ys : List A) → In x ys → In x (xs ++ ys)
in_right x [] ys h = h
in_right x (y ∷ xs) ys h = inr (in_right x xs ys h)

pub in_cases : {A : Type 0} (x : A) (xs ys : List A) → In x (xs ++ ys) → In x xs ⊎ In x ys
in_cases x [] ys h = inr h
in_cases x (y ∷ xs) ys (inl e) = inl (inl e)
in_cases x (y ∷ xs) ys (inr h) = elim (in_cases x xs ys h) [ inl a ↦ inl (inr a) | inr b ↦ inr b ]

pub every_in : {A : Type 0} (P : A → Type 0) (x : A) (xs : List A) → Every P xs → In x xs → P x
every_in P x [] h i = absurd i
every_in P x (y ∷ xs) h (inl e) = subst P (sym e) h.0
every_in P x (y ∷ xs) h (inr i) = every_in P x xs h.1 i

pub every_append : {A : Type 0} (P : A → Type 0) (xs ys : List A) → Every P xs → Every P ys → Every P (xs ++ ys)
every_append P [] ys h k = k
every_append P (x ∷ xs) ys h k = (h.0, every_append P xs ys h.1 k)

pub every_left : {A : Type 0} (P : A → Type 0) (xs ys : List A) → Every P (xs ++ ys) → Every P xs
every_left P [] ys h = tt
every_left P (x ∷ xs) ys h = (h.0, every_left P xs ys h.1)

pub every_right : {A : Type 0} (P : A → Type 0) (xs ys : List A) → Every P (xs ++ ys) → Every P ys
every_right P [] ys h = h
every_right P (x ∷ xs) ys h = every_right P xs ys h.1

pub every_from_in : {A : Type 0} (P : A → Type 0) (xs : List A) → ((x : A) → In x xs → P x) → Every P xs
every_from_in P [] f = tt
every_from_in P (x ∷ xs) f = (f x (inl refl), every_from_in P xs (λ y i. f y (inr i)))

-- An element is not among those before it.
pub apart_split : {A : Type 0} (xs ys : List A) (x : A) → Apart (xs ++ x ∷ ys) → In x xs → ⊥
apart_split [] ys x h i = i
apart_split (y ∷ xs) ys x h (inl e) = every_in (λ z. y ≡ z → ⊥) x (xs ++ x ∷ ys) h.0 (in_right x xs (x ∷ ys) (inl refl)) (sym e)
apart_split (y ∷ xs) ys x h (inr i) = apart_split xs ys x h.1 i

pub apart_snoc : {A : Type 0} (xs : List A) (x : A) → Apart xs → ¬ In x xs → Apart (xs ++ x ∷ [])
apart_snoc [] x h ne = (tt, tt)
apart_snoc (y ∷ xs) x h ne = (every_append (λ z. y ≡ z → ⊥) xs (x ∷ []) h.0 ((λ e. ne (inl (sym e))), tt), apart_snoc xs x h.1 (λ i. ne (inr i)))

pub each_from_append : {A : Type 0} (k m i : ℕ) (f : ℕ → A) → each_from i (k + m) f ≡ each_from i k f ++ each_from (i + k) m f
each_from_append zero m i f = let e : zero + m ≡ m = omega arith in let e' : i + zero ≡ i = omega arith in rw (e, e') refl
each_from_append (suc k) m i f =
    let e : suc k + m ≡ suc (k + m) = omega arith in
    let e' : suc i + k ≡ i + suc k = omega arith in
    rw e (ap (λ z. f i ∷ z) (each_from_append k m (suc i) f ∙ ap (λ j. each_from (suc i) k f ++ each_from j m f) e'))

pub each_from_snoc : {A : Type 0} (k : ℕ) (f : ℕ → A) → each_from 0 (k + 1) f ≡ each_from 0 k f ++ f k ∷ []
each_from_snoc k f = each_from_append k 1 0 f ∙ ap (λ j. each_from 0 k f ++ f j ∷ []) (let e : 0 + k ≡ k = omega arith in e)
