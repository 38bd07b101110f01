-- Lists by recursion.
use Rattle.sqcheck.proofs.Words.{Apart, Bool, Every, In, List, [], ap, arith, cond, count_by, every_append, every_from_in, every_in, false, inl, inr, length, map, refl, sum_by-cons, sym, true, ℕ, ◌++◌, ◌+◌, ◌∙◌, ◌∷◌, ◌≡◌, ◌≤◌, ◌⊎◌}

pub every_weaker : {A : Type 0} (P Q : A → Type 0) → ((x : A) → P x → Q x) → (xs : List A) → Every P xs → Every Q xs
every_weaker P Q f [] h = tt
every_weaker P Q f (x ∷ xs) h = (f x h.0, every_weaker P Q f xs h.1)

pub every_map : {A B : Type 0} (P : B → Type 0) (f : A → B) (xs : List A) → Every (λ x. P (f x)) xs → Every P (map f xs)
every_map P f [] h = tt
every_map P f (x ∷ xs) h = (h.0, every_map P f xs h.1)

pub map_append : {A B : Type 0} (f : A → B) (xs ys : List A) → map f (xs ++ ys) ≡ map f xs ++ map f ys
map_append f [] ys = refl
map_append f (x ∷ xs) ys = ap (λ l. f x ∷ l) (map_append f xs ys)

-- an element of the mapped list comes from one of the list
pub from_map : {A B : Type 0} (f : A → B) (y : B) (xs : List A) → In y (map f xs) → (x : A) × In x xs × (y ≡ f x)
from_map f y [] h = absurd h
from_map f y (x ∷ xs) (inl e) = (x, inl refl, e)
from_map f y (x ∷ xs) (inr h) = let r = from_map f y xs h in (r.0, inr r.1, r.2)

pub in_map : {A B : Type 0} (f : A → B) (x : A) (xs : List A) → In x xs → In (f x) (map f xs)
in_map f x [] h = absurd h
in_map f x (y ∷ xs) (inl e) = inl (ap f e)
in_map f x (y ∷ xs) (inr h) = inr (in_map f x xs h)

pub apart_append : {A : Type 0} (xs ys : List A) → Apart xs → Apart ys → Every (λ x. Every (λ y. x ≡ y → ⊥) ys) xs → Apart (xs ++ ys)
apart_append [] ys h k off = k
apart_append (x ∷ xs) ys h k off = (every_append (λ y. x ≡ y → ⊥) xs ys h.0 off.0, apart_append xs ys h.1 k off.1)

pub either : (b : Bool) → (b ≡ true) ⊎ (b ≡ false)
either true = inl refl
either false = inr refl

-- a list without an element
without : {A : Type 0} (x : A) (ys : List A) → In x ys → (zs : List A) × (length ys ≡ length zs + 1) × ((y : A) → In y ys → (x ≡ y → ⊥) → In y zs)
without x [] h = absurd h
without x (y ∷ ys) (inl e) = (ys, omega arith, λ z i ne. elim i [ inl f ↦ absurd (ne (e ∙ sym f)) | inr j ↦ j ])
without x (y ∷ ys) (inr h) =
    let w = without x ys h in
    (y ∷ w.0, omega (arith, w.1), λ z i ne. elim i [ inl f ↦ inl f | inr j ↦ inr (w.2 z j ne) ])

-- Elements that are all in another list are no more than it has.
pub no_more : {A : Type 0} (xs ys : List A) → Apart xs → ((x : A) → In x xs → In x ys) → length xs ≤ length ys
no_more [] ys h f = omega arith
no_more (x ∷ xs) ys h f =
    let w = without x ys (f x (inl refl)) in
    let rest = no_more xs w.0 h.1 (λ y i. w.2 y (f y (inr i)) (every_in (λ z. x ≡ z → ⊥) y xs h.0 i)) in
    omega (arith, rest, w.1)

-- The elements that pass a test.
pub passing : {A : Type 0} (p : A → Bool) (xs : List A) → Apart xs → (zs : List A) × Apart zs × (length zs ≡ count_by p xs) × ((x : A) → In x zs → In x xs × (p x ≡ true)) × ((x : A) → In x xs → p x ≡ true → In x zs)
passing p [] h = ([], tt, refl, (λ x i. absurd i), (λ x i e. absurd i))
passing p (x ∷ xs) h =
    let r = passing p xs h.1 in
    elim (either (p x)) [
      | inl e ↦ (
        x ∷ r.0,
        (every_from_in (λ y. x ≡ y → ⊥) r.0 (λ y i. every_in (λ z. x ≡ z → ⊥) y xs h.0 (r.3 y i).0), r.1),
        (let one : ◌≡◌ {A = ℕ} (cond (p x) 1 0) 1 = ap (λ b. cond b 1 0) e in omega (arith, r.2, one, sum_by-cons (λ z. cond (p z) 1 0) x xs)),
        (λ y i. elim i [ inl f ↦ (inl f, ap p f ∙ e) | inr j ↦ (inr (r.3 y j).0, (r.3 y j).1) ]),
        (λ y i f. elim i [ inl g ↦ inl g | inr j ↦ inr (r.4 y j f) ]),
      )
      | inr e ↦ (
        r.0,
        r.1,
        (let none : ◌≡◌ {A = ℕ} (cond (p x) 1 0) 0 = ap (λ b. cond b 1 0) e in omega (arith, r.2, none, sum_by-cons (λ z. cond (p z) 1 0) x xs)),
        (λ y i. (inr (r.3 y i).0, (r.3 y i).1)),
        (λ y i f. elim i [ inl g ↦ absurd (let both : true ≡ false = sym f ∙ ap p g ∙ e in cc) | inr j ↦ r.4 y j f ]),
      )
    ]
