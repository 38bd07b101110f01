-- Items and their indexes.
use Rattle.std.proofs.Common.{◌≡◌, ◌<◌, ◌≤◌, ◌+◌, ◌⊎◌, inl, inr, ⊎_elim, ℕ, Bool, true, false, List, [], ◌∷◌, ◌++◌, length, take, slice_get, Some, refl, sym, ap, ◌∙◌, subst, below_more, arith}
use Rattle.std.specs.Prelude.{◌||◌, if◌then◌else◌}
use Rattle.std.specs.List.{list_any}
use Rattle.std.proofs.lemmas.Bool.{cases_lt}
use Rattle.std.proofs.lemmas.Option.{slice_get_within, get_or_from_slice_get}
use Rattle.std.proofs.lemmas.Grind.{take_at_read}
use Rattle.std.proofs.lemmas.List.Folds.{list_any-append}
use Rattle.sqpage.specs.Lists.{In}
use Rattle.sqschema.specs.Items.{Item}
use Rattle.sqschema.specs.Roots.{IsAside}
use Rattle.sqschema.specs.Schema.{AreAsides}
use Rattle.sqschema.specs.internal.Judging.{AllAt, AllBelow, AreAsidesBelow, SaysAside}

some_once : (x y : Item) → Some x ≡ Some y → x ≡ y
some_once x y e = cc

-- the same item
pub item_once : (xs : List Item) (i : ℕ) (x y : Item) → slice_get xs i ≡ Some x → slice_get xs i ≡ Some y → x ≡ y
item_once xs i x y a b = some_once x y (sym a ∙ b)

pub below_next : (P : ℕ → Item → Type 0) (xs : List Item) (n : ℕ) (y : Item) → slice_get xs n ≡ Some y → P n y → AllBelow P xs n → AllBelow P xs (n + 1)
below_next P xs n y at here below = below_more (λ i. (x : Item) → slice_get xs i ≡ Some x → P i x) n below (λ x is. subst (P n) (item_once xs n y x at is) here)

pub below_all : (P : ℕ → Item → Type 0) (xs : List Item) (n : ℕ) → length xs ≤ n → AllBelow P xs n → AllAt P xs
below_all P xs n long below i x at = let within = slice_get_within xs i x at in below i (omega (arith, within, long)) x at

or_false : (b : Bool) → (b || false) ≡ b
or_false true = refl
or_false false = refl

-- one item more in what some of the first items pass
pub any_next : (p : Item → Bool) (xs : List Item) (n : ℕ) (y : Item) → slice_get xs n ≡ Some y → list_any p (take (n + 1) xs) ≡ (list_any p (take n xs) || p y)
any_next p xs n y at =
    let within : n < length xs = slice_get_within xs n y at in
    let more : take (n + 1) xs ≡ take n xs ++ y ∷ [] = (take_at_read xs n y within).1 ∙ ap (λ z. take n xs ++ z ∷ []) (get_or_from_slice_get xs n y y at) in
    ap (list_any p) more ∙ list_any-append p (take n xs) (y ∷ []) ∙ ap (λ b. list_any p (take n xs) || b) (or_false (p y))

in_snoc : (i n : ℕ) (xs : List ℕ) → In i (xs ++ n ∷ []) → In i xs ⊎ (i ≡ n)
in_snoc i n [] (inl e) = inr e
in_snoc i n [] (inr more) = elim more [ ]
in_snoc i n (x ∷ xs) (inl e) = inl (inl e)
in_snoc i n (x ∷ xs) (inr more) = ⊎_elim (λ h. inl (inr h)) (λ h. inr h) (in_snoc i n xs more)

snoc_old : (i n : ℕ) (xs : List ℕ) → In i xs → In i (xs ++ n ∷ [])
snoc_old i n [] old = elim old [ ]
snoc_old i n (x ∷ xs) (inl e) = inl e
snoc_old i n (x ∷ xs) (inr more) = inr (snoc_old i n xs more)

snoc_new : (n : ℕ) (xs : List ℕ) → In n (xs ++ n ∷ [])
snoc_new n [] = inl refl
snoc_new n (x ∷ xs) = inr (snoc_new n xs)

split : (i n : ℕ) → i < n + 1 → (i < n) ⊎ (i ≡ n)
split i n less = ⊎_elim (λ h. inl h) (λ (h : n ≤ i). inr (omega (arith, h, less))) (cases_lt i n)

pub no_aside : (xs : List Item) → AreAsidesBelow xs 0 []
no_aside xs = record { some = λ i h. absurd h; each = λ i x less. absurd (omega (arith, less)) }

-- the next item's text is understood, or it isn't
pub aside_next : (xs : List Item) (n : ℕ) (y : Item) (understood : Bool) (before after : List ℕ) → slice_get xs n ≡ Some y → SaysAside understood y
    → after ≡ (if understood then before else before ++ n ∷ []) → AreAsidesBelow xs n before → AreAsidesBelow xs (n + 1) after
aside_next xs n y true before after at says is w = record {
  some = λ i h. let was = w.some i (subst (In i) is h) in (was.0, omega (arith, was.1), was.2, was.3);
  each = λ i x less here aside. subst (In i) (sym is) (⊎_elim
      (λ (below : i < n). w.each i x below here aside)
      (λ (same : i ≡ n). absurd (says (subst IsAside (item_once xs n x y (subst (λ k. slice_get xs k ≡ Some x) same here) at) aside)))
      (split i n less));
}
aside_next xs n y false before after at says is w = record {
  some = λ i h. ⊎_elim
      (λ (old : In i before). let was = w.some i old in (was.0, omega (arith, was.1), was.2, was.3))
      (λ (same : i ≡ n). (y, omega (arith, same), subst (λ k. slice_get xs k ≡ Some y) (sym same) at, says))
      (in_snoc i n before (subst (In i) is h));
  each = λ i x less here aside. subst (In i) (sym is) (⊎_elim
      (λ (below : i < n). snoc_old i n before (w.each i x below here aside))
      (λ (same : i ≡ n). subst (λ k. In k (before ++ n ∷ [])) (sym same) (snoc_new n before))
      (split i n less));
}

pub all_asides : (xs : List Item) (n : ℕ) (asides : List ℕ) → length xs ≤ n → AreAsidesBelow xs n asides → AreAsides xs asides
all_asides xs n asides long w = λ i. (
  λ h. let was = w.some i h in (was.0, was.2, was.3),
  λ h. let within = slice_get_within xs i h.0 h.1 in w.each i h.0 (omega (arith, within, long)) h.1 h.2,
)
