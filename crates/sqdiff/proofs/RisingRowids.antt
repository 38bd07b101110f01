-- Rowids that rise, and lists by them.
use Rattle.std.proofs.Common.{◌≡◌, ◌≢◌, ◌↔◌, ◌∙◌, List, [], ◌∷◌, map, Option, Some, None, inl, inr, refl, sym, ap, subst, arith}
use Rattle.std.specs.Prelude.{ℤ, ◌<ℤ◌}
use Rattle.std.proofs.lemmas.Int.{ints}
use Rattle.std.specs.Int.Signed.{<ℤ_irrefl}
use Rattle.sqpage.specs.Lists.{In}
use Rattle.sqrows.specs.Rows.{Row}
use Rattle.sqdiff.specs.Changes.{IsAbove, Rise, rowids}

pub below_trans : (a b c : ℤ) → a <ℤ b → b <ℤ c → a <ℤ c
below_trans a b c h k = omega (arith, ints)

pub above_trans : (a b c : Option ℤ) → IsAbove a b → IsAbove b c → IsAbove a c
above_trans a b None h k = absurd k
above_trans a None (Some z) h k = absurd h
above_trans None (Some y) (Some z) h k = tt
above_trans (Some x) (Some y) (Some z) h k = below_trans x y z h k

pub not_above : (a : Option ℤ) → ¬ IsAbove a a
not_above None h = h
not_above (Some x) h = <ℤ_irrefl h

pub above_none : (a b : Option ℤ) → IsAbove a b → IsAbove None b
above_none a None h = absurd h
above_none a (Some y) h = tt

pub apart : (a b : Option ℤ) → IsAbove a b → a ≢ b
apart a b h same = not_above b (subst (λ (z : Option ℤ). IsAbove z b) same h)

pub rise_each : (before id : Option ℤ) (ids : List (Option ℤ)) → Rise before ids → In id ids → IsAbove before id
rise_each before id [] h i = absurd i
rise_each before id (x ∷ ids) h (inl e) = subst (IsAbove before) (sym e) h.0
rise_each before id (x ∷ ids) h (inr i) = above_trans before x id h.0 (rise_each x id ids h.1 i)

-- They rise from another one, too, where the first of them is above it.
pub rise_from : (a b : Option ℤ) (ids : List (Option ℤ)) → Rise a ids → ((id : Option ℤ) → In id ids → IsAbove b id) → Rise b ids
rise_from a b [] h above = tt
rise_from a b (x ∷ ids) h above = (above x (inl refl), h.1)

pub in_map : {A B : Type 0} (f : A → B) (x : A) (xs : List A) → In x xs → In (f x) (map f xs)
in_map f x [] i = absurd i
in_map f x (y ∷ xs) (inl e) = inl (ap f e)
in_map f x (y ∷ xs) (inr i) = inr (in_map f x xs i)

pub in_map_back : {A B : Type 0} (f : A → B) (z : B) (xs : List A) → In z (map f xs) → (x : A) × In x xs × (z ≡ f x)
in_map_back f z [] i = absurd i
in_map_back f z (y ∷ xs) (inl e) = (y, inl refl, e)
in_map_back f z (y ∷ xs) (inr i) = let b = in_map_back f z xs i in (b.0, inr b.1, b.2)

-- each of these is above the one that they rise from
pub above_each : {A : Type 0} (key : A → Option ℤ) (before : Option ℤ) (x : A) (xs : List A) → Rise before (map key xs) → In x xs → IsAbove before (key x)
above_each key before x xs h i = rise_each before (key x) (map key xs) h (in_map key x xs i)

-- two of the same key are one
pub once_by : {A : Type 0} (key : A → Option ℤ) (before : Option ℤ) (x y : A) (xs : List A) → Rise before (map key xs) → In x xs → In y xs → key x ≡ key y → x ≡ y
once_by key before x y [] h i j same = absurd i
once_by key before x y (z ∷ xs) h (inl e) (inl f) same = e ∙ sym f
once_by key before x y (z ∷ xs) h (inl e) (inr j) same = absurd (apart (key z) (key y) (above_each key (key z) y xs h.1 j) (ap key (sym e) ∙ same))
once_by key before x y (z ∷ xs) h (inr i) (inl f) same = absurd (apart (key z) (key x) (above_each key (key z) x xs h.1 i) (ap key (sym f) ∙ sym same))
once_by key before x y (z ∷ xs) h (inr i) (inr j) same = once_by key (key z) x y xs h.1 i j same

-- Two lists that rise and have the same elements are one list.
pub same_lists : {A : Type 0} (key : A → Option ℤ) (a b : Option ℤ) (xs ys : List A) → Rise a (map key xs) → Rise b (map key ys) → ((z : A) → In z xs ↔ In z ys) → xs ≡ ys
same_lists key a b [] [] h k same = refl
same_lists key a b [] (y ∷ ys) h k same = absurd ((same y).1 (inl refl))
same_lists key a b (x ∷ xs) [] h k same = absurd ((same x).0 (inl refl))
same_lists {A} key a b (x ∷ xs) (y ∷ ys) h k same =
    ap (λ z. z ∷ xs) head ∙ ap (λ zs. y ∷ zs) (same_lists key (key x) (key y) xs ys h.1 k.1 (λ z. (on z, back z)))
  where
    head : x ≡ y
    head = elim ((same x).0 (inl refl)) [
      | inl e ↦ e
      | inr i ↦ elim ((same y).1 (inl refl)) [
        | inl e ↦ sym e
        | inr j ↦ absurd (not_above (key x) (above_trans (key x) (key y) (key x) (above_each key (key x) y xs h.1 j) (above_each key (key y) x ys k.1 i)))
      ]
    ]

    on : (z : A) → In z xs → In z ys
    on z i = elim ((same z).0 (inr i)) [
      | inl e ↦ absurd (apart (key x) (key z) (above_each key (key x) z xs h.1 i) (ap key (head ∙ sym e)))
      | inr j ↦ j
    ]

    back : (z : A) → In z ys → In z xs
    back z i = elim ((same z).1 (inr i)) [
      | inl e ↦ absurd (apart (key y) (key z) (above_each key (key y) z ys k.1 i) (ap key (sym head ∙ sym e)))
      | inr j ↦ j
    ]

pub row_above : (before : Option ℤ) (r : Row) (rows : List Row) → Rise before (rowids rows) → In r rows → IsAbove before r.rowid
row_above before r rows h i = above_each (λ (r : Row). r.rowid) before r rows h i
