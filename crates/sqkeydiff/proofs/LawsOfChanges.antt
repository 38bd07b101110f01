-- What the changes between two lists of rows are.
use Rattle.std.proofs.Common.{◌≡◌, ◌≢◌, ◌↔◌, ◌⊎◌, ◌∙◌, List, [], ◌∷◌, map, Option, Some, None, inl, inr, refl, sym, ap, subst}
use Rattle.std.specs.Prelude.{ℤ}
use Rattle.std.specs.declared.cmp.Ordering.{Ordering}
use Rattle.std.specs.declared.cmp.Ordering.TheVariants.{Less, Equal, Greater}
use Rattle.sqpage.specs.Lists.{In}
use Rattle.sqrows.specs.Rows.{Row}
use Rattle.sqlite_value.specs.declared.value.Value.{Value}
use Rattle.sqlite_value.specs.declared.keys.Order.{Order}
use Rattle.sqlite_value.specs.Keys.{entry_cmp}
use Rattle.sqdiff.specs.Changes.{Change, inserted, deleted, changed}
use Rattle.sqdiff.proofs.SameValues.{same_values, row_same}
use Rattle.sqkeydiff.specs.declared.key.KeyOrder.{KeyOrder}
use Rattle.sqkeydiff.specs.KeyChanges.{keyed, key_of, keys_of, key_in, IsAbove, Ascend, AreEqual, IsFree, IsKeyChangeOf, AreKeyChanges}
use Rattle.sqkeydiff.specs.Made.{IsTaken, IsMade, AreMade, Make}
use Rattle.sqkeydiff.proofs.AscendingKeys.{not_above, above_trans, apart, above_each, self_equal, equal_sym, equal_trans, unequal}

-- Two lists whose keys ascend and that have the same elements are one list.
module _ {A : Type 0} (order : Order) (key : A → Option (List Value)) where
  same_lists : (a b : Option (List Value)) (xs ys : List A) → Ascend order a (map key xs) → Ascend order b (map key ys) → ((z : A) → In z xs ↔ In z ys) → xs ≡ ys
  same_lists a b [] [] h k same = refl
  same_lists a b [] (y ∷ ys) h k same = absurd ((same y).1 (inl refl))
  same_lists a b (x ∷ xs) [] h k same = absurd ((same x).0 (inl refl))
  same_lists a b (x ∷ xs) (y ∷ ys) h k same =
      ap (λ z. z ∷ xs) head ∙ ap (λ zs. y ∷ zs) (same_lists (key x) (key y) xs ys h.1 k.1 (λ z. (on z, back z)))
    where
      head : x ≡ y
      head = elim ((same x).0 (inl refl)) [
        | inl e ↦ e
        | inr i ↦ elim ((same y).1 (inl refl)) [
          | inl e ↦ sym e
          | inr j ↦ absurd (not_above order (key x) (above_trans order (key x) (key y) (key x) (above_each order key (key x) y xs h.1 j) (above_each order key (key y) x ys k.1 i)))
        ]
      ]

      on : (z : A) → In z xs → In z ys
      on z i = elim ((same z).0 (inr i)) [
        | inl e ↦ absurd (apart order (key x) (key z) (above_each order key (key x) z xs h.1 i) (ap key (head ∙ sym e)))
        | inr j ↦ j
      ]

      back : (z : A) → In z ys → In z xs
      back z i = elim ((same z).1 (inr i)) [
        | inl e ↦ absurd (apart order (key y) (key z) (above_each order key (key y) z ys k.1 i) (ap key (sym head ∙ sym e)))
        | inr j ↦ j
      ]

-- There is one list of changes at most.
pub changes_once : (by : KeyOrder) (old new : List Row) (cs ds : List Change) → AreKeyChanges by old new cs → AreKeyChanges by old new ds → cs ≡ ds
changes_once by old new cs ds all more =
    same_lists by.order (key_in by.width) None None cs ds all.0 more.0 (λ c. (λ i. (more.1 c).1 ((all.1 c).0 i), λ i. (all.1 c).1 ((more.1 c).0 i)))

-- Changes make one list of rows at most.
made_once : (by : KeyOrder) (old : List Row) (cs : List Change) (xs ys : List Row) → AreMade by old cs xs → AreMade by old cs ys → xs ≡ ys
made_once by old cs xs ys one other =
    same_lists by.order (key_of by.width) None None xs ys one.0 other.0 (λ r. (λ i. (other.1 r).1 ((one.1 r).0 i), λ i. (one.1 r).1 ((other.1 r).0 i)))

is_equal : (o : Ordering) → (o ≡ Equal) ⊎ (o ≢ Equal)
is_equal Less = inr (λ e. cc)
is_equal Equal = inl refl
is_equal Greater = inr (λ e. cc)

equal_or_not : (order : Order) (a b : Option (List Value)) → AreEqual order a b ⊎ (¬ AreEqual order a b)
equal_or_not order None None = inr (λ e. e)
equal_or_not order None (Some y) = inr (λ e. e)
equal_or_not order (Some x) None = inr (λ e. e)
equal_or_not order (Some x) (Some y) = is_equal (entry_cmp order x y)

-- rows of equal keys have no rowids
no_rowids : (order : Order) (a b : Option ℤ) (v w : List Value) → AreEqual order (keyed a v) (keyed b w) → a ≡ b
no_rowids order None None v w e = refl
no_rowids order None (Some y) v w e = absurd e
no_rowids order (Some x) None v w e = absurd e
no_rowids order (Some x) (Some y) v w e = absurd e

-- a key that comes behind another one is one, and equals itself
itself : (order : Order) (before key : Option (List Value)) → IsAbove order before key → AreEqual order key key
itself order before None h = absurd h
itself order before (Some x) h = self_equal order x

-- Elements with keys.
module _ {A : Type 0} (order : Order) (key : A → Option (List Value)) where
  none_with : (k : Option (List Value)) (x : A) (xs : List A) → ¬ AreEqual order (key x) k → ((y : A) → In y xs → ¬ AreEqual order (key y) k)
      → (y : A) → In y (x ∷ xs) → ¬ AreEqual order (key y) k
  none_with k x xs not none y (inl e) same = not (subst (λ (z : A). AreEqual order (key z) k) e same)
  none_with k x xs not none y (inr i) same = none y i same

  -- some of these has a key equal to this one, or none has
  found : (k : Option (List Value)) (xs : List A) → ((x : A) × In x xs × AreEqual order (key x) k) ⊎ ((x : A) → In x xs → ¬ AreEqual order (key x) k)
  found k [] = inr (λ x i e. i)
  found k (x ∷ xs) = elim (equal_or_not order (key x) k) [
    | inl e ↦ inl (x, inl refl, e)
    | inr not ↦ elim (found k xs) [ inl f ↦ inl (f.0, inr f.1, f.2) | inr none ↦ inr (none_with k x xs not none) ]
  ]

  -- two of equal keys are one
  once : (before : Option (List Value)) (x y : A) (xs : List A) → Ascend order before (map key xs) → In x xs → In y xs → AreEqual order (key x) (key y) → x ≡ y
  once before x y [] h i j same = absurd i
  once before x y (z ∷ xs) h (inl e) (inl f) same = e ∙ sym f
  once before x y (z ∷ xs) h (inl e) (inr j) same =
      absurd (unequal order (key z) (key y) (above_each order key (key z) y xs h.1 j) (subst (λ (w : A). AreEqual order (key w) (key y)) e same))
  once before x y (z ∷ xs) h (inr i) (inl f) same =
      absurd (unequal order (key z) (key x) (above_each order key (key z) x xs h.1 i)
      (equal_sym order (key x) (key z) (subst (λ (w : A). AreEqual order (key x) (key w)) f same)))
  once before x y (z ∷ xs) h (inr i) (inr j) same = once (key z) x y xs h.1 i j same

  own : (before : Option (List Value)) (x : A) (xs : List A) → Ascend order before (map key xs) → In x xs → AreEqual order (key x) (key x)
  own before x xs h i = itself order before (key x) (above_each order key before x xs h i)

-- Two lists of rows whose keys ascend.
module _ (by : KeyOrder) (old new : List Row) (h : Ascend by.order None (keys_of by.width old)) (k : Ascend by.order None (keys_of by.width new)) where
  abbrev key : Row → Option (List Value)
  key r = key_of by.width r

  old_once : (r s : Row) → In r old → In s old → AreEqual by.order (key r) (key s) → r ≡ s
  old_once r s i j e = once by.order (key_of by.width) None r s old h i j e

  new_once : (r s : Row) → In r new → In s new → AreEqual by.order (key r) (key s) → r ≡ s
  new_once r s i j e = once by.order (key_of by.width) None r s new k i j e

  turned : (r s : Row) → AreEqual by.order (key r) (key s) → AreEqual by.order (key s) (key r)
  turned r s e = equal_sym by.order (key r) (key s) e

  joined : (r s t : Row) → AreEqual by.order (key r) (key s) → AreEqual by.order (key s) (key t) → AreEqual by.order (key r) (key t)
  joined r s t e f = equal_trans by.order (key r) (key s) (key t) e f

  alike : (r s : Row) → AreEqual by.order (key r) (key s) → r.values ≡ s.values → r ≡ s
  alike r s e same = row_same r s (no_rowids by.order r.rowid s.rowid _ _ e) same

  -- The changes between them make the new rows of the old ones.
  module _ (cs : List Change) (all : AreKeyChanges by old new cs) where
    -- no change is of a row that both have
    kept : (s : Row) → In s old → In s new → (c : Change) → IsKeyChangeOf by old new c → ¬ AreEqual by.order (key_in by.width c) (key s)
    kept s i j (inserted x) is same = is.1 s i (turned x s same)
    kept s i j (deleted x) is same = is.1 s j (turned x s same)
    kept s i j (changed x y) is same =
        let was : x ≡ s = old_once x s is.0 i same in
        let now : y ≡ s = new_once y s is.1 j (joined y x s (turned x y is.2) same) in
        is.3 (ap (λ (z : Row). z.values) (was ∙ sym now))

    new_made : (s : Row) → In s new → IsMade by old cs s
    new_made s i = elim (found by.order (key_of by.width) (key s) old) [
      | inl f ↦ elim (same_values f.0.values s.values) [
        | inl e ↦ let at : In s old = subst (λ (z : Row). In z old) (alike f.0 s f.2 e) f.1 in inl (at, λ c j. kept s at i c ((all.1 c).0 j))
        | inr not ↦ inr (inr (f.0, (all.1 (changed f.0 s)).1 (f.1, i, f.2, not)))
      ]
      | inr free ↦ inr (inl ((all.1 (inserted s)).1 (i, free)))
    ]

    made_new : (s : Row) → IsMade by old cs s → In s new
    made_new s (inl m) = elim (found by.order (key_of by.width) (key s) new) [
      | inl f ↦ elim (same_values s.values f.0.values) [
        | inl e ↦ subst (λ (z : Row). In z new) (alike f.0 s f.2 (sym e)) f.1
        | inr not ↦ absurd (m.1 (changed s f.0) ((all.1 (changed s f.0)).1 (m.0, f.1, turned f.0 s f.2, not)) (own by.order (key_of by.width) None s old h m.0))
      ]
      | inr free ↦ absurd (m.1 (deleted s) ((all.1 (deleted s)).1 (m.0, free)) (own by.order (key_of by.width) None s old h m.0))
    ]
    made_new s (inr (inl i)) = ((all.1 (inserted s)).0 i).0
    made_new s (inr (inr m)) = ((all.1 (changed m.0 s)).0 m.1).1

    new_are_made : AreMade by old cs new
    new_are_made = (k, λ s. (new_made s, made_new s))

    taken : (c : Change) → IsKeyChangeOf by old new c → IsTaken by old c
    taken (inserted r) is = is.1
    taken (deleted r) is = is.0
    taken (changed r s) is = (is.0, is.2, is.3)

    changes_make : Make by old new cs
    changes_make = (all.0, λ c i. taken c ((all.1 c).0 i), new_are_made)

  -- What makes the new rows of the old ones are the changes between them.
  module _ (cs : List Change) (m : Make by old new cs) where
    one_change : (c d : Change) → In c cs → In d cs → AreEqual by.order (key_in by.width c) (key_in by.width d) → c ≡ d
    one_change c d i j e = once by.order (key_in by.width) None c d cs m.0 i j e

    gone : (r s : Row) → In (deleted r) cs → IsMade by old cs s → ¬ AreEqual by.order (key s) (key r)
    gone r s i (inl n) e = n.1 (deleted r) i (turned s r e)
    gone r s i (inr (inl j)) e = let x : inserted s ≡ deleted r = one_change (inserted s) (deleted r) j i e in cc
    gone r s i (inr (inr w)) e =
        let t = m.1 (changed w.0 s) w.1 in
        let x : changed w.0 s ≡ deleted r = one_change (changed w.0 s) (deleted r) w.1 i (joined w.0 s r t.1 e) in cc

    is_change : (c : Change) → In c cs → IsKeyChangeOf by old new c
    is_change (inserted r) i = ((m.2.1 r).1 (inr (inl i)), m.1 (inserted r) i)
    is_change (deleted r) i = (m.1 (deleted r) i, λ s j e. gone r s i ((m.2.1 s).0 j) e)
    is_change (changed r s) i = let t = m.1 (changed r s) i in (t.0, (m.2.1 s).1 (inr (inr (r, i))), t.1, t.2)

    came : (r : Row) → In r new → IsFree by (key r) old → IsMade by old cs r → In (inserted r) cs
    came r at free (inl a) = absurd (free r a.0 (own by.order (key_of by.width) None r new k at))
    came r at free (inr (inl i)) = i
    came r at free (inr (inr w)) = let t = m.1 (changed w.0 r) w.1 in absurd (free w.0 t.0 t.1)

    went : (r : Row) → In r old → IsFree by (key r) new → (c : Change) → In c cs → AreEqual by.order (key_in by.width c) (key r) → In (deleted r) cs
    went r at free (inserted x) i e = absurd (m.1 (inserted x) i r at (turned x r e))
    went r at free (deleted x) i e = subst (λ (z : Row). In (deleted z) cs) (old_once x r (m.1 (deleted x) i) at e) i
    went r at free (changed x y) i e =
        let t = m.1 (changed x y) i in
        absurd (free y ((m.2.1 y).1 (inr (inr (x, i)))) (joined y x r (turned x y t.1) e))

    became : (r s : Row) → IsKeyChangeOf by old new (changed r s) → IsMade by old cs s → In (changed r s) cs
    became r s is (inl a) = absurd (is.3 (ap (λ (z : Row). z.values) (old_once r s is.0 a.0 is.2)))
    became r s is (inr (inl i)) = absurd (m.1 (inserted s) i r is.0 is.2)
    became r s is (inr (inr w)) =
        let t = m.1 (changed w.0 s) w.1 in
        let same : w.0 ≡ r = old_once w.0 r t.0 is.0 (joined w.0 s r t.1 (turned r s is.2)) in
        subst (λ (z : Row). In (changed z s) cs) same w.1

    is_told : (c : Change) → IsKeyChangeOf by old new c → In c cs
    is_told (inserted r) is = came r is.0 is.1 ((m.2.1 r).0 is.0)
    is_told (deleted r) is = elim (found by.order (key_in by.width) (key r) cs) [
      | inl f ↦ went r is.0 is.1 f.0 f.1 f.2
      | inr none ↦ absurd (is.1 r ((m.2.1 r).1 (inl (is.0, none))) (own by.order (key_of by.width) None r old h is.0))
    ]
    is_told (changed r s) is = became r s is ((m.2.1 s).0 is.1)

    makers_are_changes : AreKeyChanges by old new cs
    makers_are_changes = (m.0, λ c. (is_change c, is_told c))

-- The changes between old and new rows are just what makes the new rows of the old ones.
pub changes_are_makers : (by : KeyOrder) (old new : List Row) (cs : List Change) → Ascend by.order None (keys_of by.width old) → Ascend by.order None (keys_of by.width new)
    → AreKeyChanges by old new cs ↔ Make by old new cs
changes_are_makers by old new cs h k = (λ all. changes_make by old new h k cs all, λ m. makers_are_changes by old new h k cs m)

-- What the changes make of the old rows is the new rows.
pub changes_apply : (by : KeyOrder) (old new : List Row) (cs : List Change) → Ascend by.order None (keys_of by.width old) → Ascend by.order None (keys_of by.width new)
    → AreKeyChanges by old new cs → (rows : List Row) → AreMade by old cs rows ↔ (rows ≡ new)
changes_apply by old new cs h k all rows = (
  λ made. made_once by old cs rows new made (new_are_made by old new h k cs all),
  λ is. subst (AreMade by old cs) (sym is) (new_are_made by old new h k cs all),
)
