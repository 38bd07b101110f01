-- Items of a kind, judged one after another.
use Rattle.std.proofs.Common.{◌≡◌, ◌<◌, ◌≤◌, ◌+◌, ◌⊎◌, inl, inr, ⊎_elim, ℕ, zero, suc, Bool, true, false, List, [], ◌∷◌, ◌++◌, length, slice_get, Some, refl, sym, subst, arith}
use Rattle.std.specs.Prelude.{if◌then◌else◌}
use Rattle.std.proofs.lemmas.Bool.{cases_lt}
use Rattle.std.proofs.lemmas.Option.{slice_get_within}
use Rattle.sqpage.specs.Lists.{In}
use Rattle.sqschema.specs.Items.{Item}
use Rattle.sqschema.proofs.ItemsAt.{item_once}
use Rattle.sqindex.proofs.Places.{get_push}
use Rattle.sqcontents.specs.Contents.{AreJudged}
use Rattle.sqcontents.specs.internal.Judging.{AreJudgedBelow, Judges}

in_snoc : (i n : ℕ) (xs : List ℕ) → In i (xs ++ n ∷ []) → In i xs ⊎ (i ≡ n)
in_snoc i n [] (inl e) = inr e
in_snoc i n [] (inr more) = elim more [ ]
in_snoc i n (x ∷ xs) (inl e) = inl (inl e)
in_snoc i n (x ∷ xs) (inr more) = ⊎_elim (λ h. inl (inr h)) (λ h. inr h) (in_snoc i n xs more)

snoc_old : (i n : ℕ) (xs : List ℕ) → In i xs → In i (xs ++ n ∷ [])
snoc_old i n [] old = elim old [ ]
snoc_old i n (x ∷ xs) (inl e) = inl e
snoc_old i n (x ∷ xs) (inr more) = inr (snoc_old i n xs more)

snoc_new : (n : ℕ) (xs : List ℕ) → In n (xs ++ n ∷ [])
snoc_new n [] = inl refl
snoc_new n (x ∷ xs) = inr (snoc_new n xs)

split : (i n : ℕ) → i < n + 1 → (i < n) ⊎ (i ≡ n)
split i n less = ⊎_elim (λ h. inl h) (λ (h : n ≤ i). inr (omega (arith, h, less))) (cases_lt i n)

at_in : (xs : List ℕ) (k i : ℕ) → slice_get xs k ≡ Some i → In i xs
at_in [] k i e = absurd (cc)
at_in (x ∷ xs) zero i e = inl (cc)
at_in (x ∷ xs) (suc k) i e = inr (at_in xs k i e)

module _ (Is IsSound IsOpen : Item → Type 0) where
  -- what holds of the item at a place holds of each item there
  pub of_item : (xs : List Item) (row : ℕ) (y : Item) → slice_get xs row ≡ Some y → IsSound y → Judges Is IsSound IsOpen xs row true
  of_item xs row y at here = λ x is kind. subst IsSound (item_once xs row y x at is) here

  pub none_of : (xs : List Item) (row : ℕ) (y : Item) → slice_get xs row ≡ Some y → ¬ Is y → Judges Is IsSound IsOpen xs row true
  none_of xs row y at not = λ x is kind. absurd (not (subst Is (sym (item_once xs row y x at is)) kind))

  pub none_judged : (xs : List Item) → AreJudgedBelow Is IsSound IsOpen xs 0 []
  none_judged xs = record { each = λ i x less. absurd (omega (arith, less)); why = λ i h. absurd h; rise = λ k i j at next. absurd (cc) }

  -- the next item is judged, or isn't
  pub item_next : (xs : List Item) (n : ℕ) (judged : Bool) (before after : List ℕ)
      → Judges Is IsSound IsOpen xs n judged → after ≡ (if judged then before else before ++ n ∷ []) → AreJudgedBelow Is IsSound IsOpen xs n before → AreJudgedBelow Is IsSound IsOpen xs (n + 1) after
  item_next xs n true before after judges is w = record {
    each = λ i x less here own out. ⊎_elim
        (λ (below : i < n). w.each i x below here own (λ h. out (subst (In i) (sym is) h)))
        (λ (same : i ≡ n). judges x (subst (λ k. slice_get xs k ≡ Some x) same here) own)
        (split i n less);
    why = λ i h. let was = w.why i (subst (In i) is h) in (was.0, omega (arith, was.1), was.2, was.3, was.4);
    rise = λ k i j at next. w.rise k i j (subst (λ ys. slice_get ys k ≡ Some i) is at) (subst (λ ys. slice_get ys (k + 1) ≡ Some j) is next);
  }
  item_next xs n false before after judges is w = record {
    each = λ i x less here own out. ⊎_elim
        (λ (below : i < n). w.each i x below here own (λ h. out (subst (In i) (sym is) (snoc_old i n before h))))
        (λ (same : i ≡ n). absurd (out (subst (In i) (sym is) (subst (λ k. In k (before ++ n ∷ [])) (sym same) (snoc_new n before)))))
        (split i n less);
    why = λ i h. ⊎_elim
        (λ (old : In i before). let was = w.why i old in (was.0, omega (arith, was.1), was.2, was.3, was.4))
        (λ (same : i ≡ n). (judges.0, omega (arith, same), subst (λ k. slice_get xs k ≡ Some judges.0) (sym same) judges.1, judges.2, judges.3))
        (in_snoc i n before (subst (In i) is h));
    rise = λ k i j at next. rises k i j (subst (λ ys. slice_get ys k ≡ Some i) is at) (subst (λ ys. slice_get ys (k + 1) ≡ Some j) is next);
  }
    where
      rises : (k i j : ℕ) → slice_get (before ++ n ∷ []) k ≡ Some i → slice_get (before ++ n ∷ []) (k + 1) ≡ Some j → i < j
      rises k i j at next = ⊎_elim
          (λ (old : slice_get before (k + 1) ≡ Some j).
          let within = slice_get_within before (k + 1) j old in
          ⊎_elim
          (λ (here : slice_get before k ≡ Some i). w.rise k i j here old)
          (λ new. absurd (omega (arith, within, new.0)))
          (get_push before n k i at))
          (λ new. ⊎_elim
          (λ (here : slice_get before k ≡ Some i). let was = w.why i (at_in before k i here) in subst (λ z. i < z) (sym new.1) was.1)
          (λ also. absurd (omega (arith, new.0, also.0)))
          (get_push before n k i at))
          (get_push before n (k + 1) j next)

  pub all_judged : (xs : List Item) (n : ℕ) (asides : List ℕ) → length xs ≤ n → AreJudgedBelow Is IsSound IsOpen xs n asides → AreJudged Is IsSound IsOpen xs asides
  all_judged xs n asides long w = record {
    each = λ i x here. let within = slice_get_within xs i x here in w.each i x (omega (arith, within, long)) here;
    why = λ i h. let was = w.why i h in (was.0, was.2, was.3, was.4);
    rise = w.rise;
  }
