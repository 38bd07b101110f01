-- The changes between two lists of rows, at their heads.
use Rattle.std.proofs.Common.{◌≡◌, ◌≢◌, ◌↔◌, ◌⊎◌, ◌∙◌, List, [], ◌∷◌, map, Option, None, inl, inr, refl, sym, ap, subst}
use Rattle.sqpage.specs.Lists.{In}
use Rattle.sqrows.specs.Rows.{Row}
use Rattle.sqlite_value.specs.declared.value.Value.{Value}
use Rattle.sqdiff.specs.Changes.{Change, inserted, deleted, changed}
use Rattle.sqdiff.proofs.RisingRowids.{in_map_back}
use Rattle.sqkeydiff.specs.declared.key.KeyOrder.{KeyOrder}
use Rattle.sqkeydiff.specs.KeyChanges.{key_of, keys_of, key_in, IsAbove, Ascend, AreEqual, IsFree, IsKeyChangeOf, AreKeyChanges}
use Rattle.sqkeydiff.proofs.AscendingKeys.{not_above, above_none, apart, unequal, equal_sym, equal_trans, above_trans, ascend_from, above_each, row_above}

-- These are all of which P holds, in the order of the keys.
abbrev AreAll : KeyOrder → (P : Change → Type 0) → List Change → Type 0
AreAll by P cs = Ascend by.order None (map (key_in by.width) cs) × ((c : Change) → In c cs ↔ P c)

-- Of which P holds is h, and then those of which Q does.
module _ (by : KeyOrder) (P Q : Change → Type 0) (h : Change) (some : IsAbove by.order None (key_in by.width h))
    (cases : (c : Change) → P c → (c ≡ h) ⊎ Q c) (here : P h) (others : (c : Change) → Q c → P c)
    (above : (c : Change) → Q c → IsAbove by.order (key_in by.width h) (key_in by.width c)) where
  first_is : (c : Change) (more : List Change) → AreAll by P (c ∷ more) → c ≡ h
  first_is c more all = elim (cases c ((all.1 c).0 (inl refl))) [
    | inl e ↦ e
    | inr q ↦ elim ((all.1 h).1 here) [
      | inl e ↦ sym e
      | inr i ↦ absurd (not_above by.order (key_in by.width h) (above_trans by.order (key_in by.width h) (key_in by.width c) (key_in by.width h) (above c q)
          (above_each by.order (key_in by.width) (key_in by.width c) h more all.0.1 i)))
    ]
  ]

  rest_all : (c : Change) (more : List Change) → AreAll by P (c ∷ more) → AreAll by Q more
  rest_all c more all = (
    ascend_from by.order (key_in by.width c) None (map (key_in by.width) more) all.0.1
        (λ key i. let b = in_map_back (key_in by.width) key more i in subst (IsAbove by.order None) (sym b.2)
        (above_none by.order (key_in by.width c) (key_in by.width b.0) (above_each by.order (key_in by.width) (key_in by.width c) b.0 more all.0.1 b.1))),
    λ z. (on z, back z),
  )
    where
      same : c ≡ h
      same = first_is c more all

      on : (z : Change) → In z more → Q z
      on z i = elim (cases z ((all.1 z).0 (inr i))) [
        | inl e ↦ absurd (apart by.order (key_in by.width c) (key_in by.width z) (above_each by.order (key_in by.width) (key_in by.width c) z more all.0.1 i) (ap (key_in by.width) (same ∙ sym e)))
        | inr q ↦ q
      ]

      back : (z : Change) → Q z → In z more
      back z q = elim ((all.1 z).1 (others z q)) [
        | inl e ↦ absurd (apart by.order (key_in by.width h) (key_in by.width z) (above z q) (ap (key_in by.width) (sym same ∙ sym e)))
        | inr i ↦ i
      ]

  head_on : (cs : List Change) → AreAll by P cs → (more : List Change) × (cs ≡ h ∷ more) × AreAll by Q more
  head_on [] all = absurd ((all.1 h).1 here)
  head_on (c ∷ more) all = (more, ap (λ z. z ∷ more) (first_is c more all), rest_all c more all)

  head_back : (more : List Change) → AreAll by Q more → AreAll by P (h ∷ more)
  head_back more all = (
    (
      some,
      ascend_from by.order None (key_in by.width h) (map (key_in by.width) more) all.0
          (λ key i. let b = in_map_back (key_in by.width) key more i in subst (IsAbove by.order (key_in by.width h)) (sym b.2) (above b.0 ((all.1 b.0).0 b.1))),
    ),
    λ z. (on z, back z),
  )
    where
      on : (z : Change) → In z (h ∷ more) → P z
      on z (inl e) = subst P (sym e) here
      on z (inr i) = others z ((all.1 z).0 i)

      back : (z : Change) → P z → In z (h ∷ more)
      back z p = elim (cases z p) [ inl e ↦ inl e | inr q ↦ inr ((all.1 z).1 q) ]

  pub head_step : (cs : List Change) → AreAll by P cs ↔ ((more : List Change) × (cs ≡ h ∷ more) × AreAll by Q more)
  head_step cs = (head_on cs, λ m. subst (AreAll by P) (sym m.1) (head_back m.0 m.2))

module _ (by : KeyOrder) where
  abbrev key : Row → Option (List Value)
  key r = key_of by.width r

  -- the key of a change between rows whose keys ascend comes behind what they ascend from
  change_above : (before : Option (List Value)) (old new : List Row) → Ascend by.order before (keys_of by.width old) → Ascend by.order before (keys_of by.width new)
      → (c : Change) → IsKeyChangeOf by old new c → IsAbove by.order before (key_in by.width c)
  change_above before old new h k (inserted r) is = row_above by.order by.width before r new k is.0
  change_above before old new h k (deleted r) is = row_above by.order by.width before r old h is.0
  change_above before old new h k (changed r s) is = row_above by.order by.width before r old h is.0

  free_above : (before : Option (List Value)) (rows : List Row) → Ascend by.order before (keys_of by.width rows) → IsFree by before rows
  free_above before rows h r i same = unequal by.order before (key r) (row_above by.order by.width before r rows h i) (equal_sym by.order (key r) before same)

  -- a row before these has no key equal to it
  free_with : (r : Row) (k : Option (List Value)) (rows : List Row) → ¬ AreEqual by.order (key r) k → IsFree by k rows → IsFree by k (r ∷ rows)
  free_with r k rows not free x (inl e) same = not (subst (λ (z : Row). AreEqual by.order (key z) k) e same)
  free_with r k rows not free x (inr i) same = free x i same

  -- A row that went: the new rows are above it.
  module _ (r : Row) (old new : List Row) (some : IsAbove by.order None (key r)) (h : Ascend by.order (key r) (keys_of by.width old)) (k : Ascend by.order (key r) (keys_of by.width new)) where
    went_cases : (c : Change) → IsKeyChangeOf by (r ∷ old) new c → (c ≡ deleted r) ⊎ IsKeyChangeOf by old new c
    went_cases (inserted x) is = inr (is.0, λ y i. is.1 y (inr i))
    went_cases (deleted x) is = elim is.0 [ inl e ↦ inl (ap deleted e) | inr i ↦ inr (i, is.1) ]
    went_cases (changed x y) is = elim is.0 [
      | inl e ↦ absurd (unequal by.order (key r) (key y) (row_above by.order by.width (key r) y new k is.1) (subst (λ (z : Row). AreEqual by.order (key z) (key y)) e is.2))
      | inr i ↦ inr (i, is.1, is.2, is.3)
    ]

    went_others : (c : Change) → IsKeyChangeOf by old new c → IsKeyChangeOf by (r ∷ old) new c
    went_others (inserted x) is = (is.0, free_with r (key x) old (unequal by.order (key r) (key x) (row_above by.order by.width (key r) x new k is.0)) is.1)
    went_others (deleted x) is = (inr is.0, is.1)
    went_others (changed x y) is = (inr is.0, is.1, is.2, is.3)

    pub went : (cs : List Change) → AreKeyChanges by (r ∷ old) new cs ↔ ((more : List Change) × (cs ≡ deleted r ∷ more) × AreKeyChanges by old new more)
    went = head_step by (IsKeyChangeOf by (r ∷ old) new) (IsKeyChangeOf by old new) (deleted r) some went_cases (inl refl, free_above (key r) new k) went_others (change_above (key r) old new h k)

  -- A row that came: the old rows are above it.
  module _ (s : Row) (old new : List Row) (some : IsAbove by.order None (key s)) (h : Ascend by.order (key s) (keys_of by.width old)) (k : Ascend by.order (key s) (keys_of by.width new)) where
    came_cases : (c : Change) → IsKeyChangeOf by old (s ∷ new) c → (c ≡ inserted s) ⊎ IsKeyChangeOf by old new c
    came_cases (inserted x) is = elim is.0 [ inl e ↦ inl (ap inserted e) | inr i ↦ inr (i, is.1) ]
    came_cases (deleted x) is = inr (is.0, λ y i. is.1 y (inr i))
    came_cases (changed x y) is = elim is.1 [
      | inl e ↦ absurd (unequal by.order (key s) (key x) (row_above by.order by.width (key s) x old h is.0)
          (equal_sym by.order (key x) (key s) (subst (λ (z : Row). AreEqual by.order (key x) (key z)) e is.2)))
      | inr i ↦ inr (is.0, i, is.2, is.3)
    ]

    came_others : (c : Change) → IsKeyChangeOf by old new c → IsKeyChangeOf by old (s ∷ new) c
    came_others (inserted x) is = (inr is.0, is.1)
    came_others (deleted x) is = (is.0, free_with s (key x) new (unequal by.order (key s) (key x) (row_above by.order by.width (key s) x old h is.0)) is.1)
    came_others (changed x y) is = (is.0, inr is.1, is.2, is.3)

    pub came : (cs : List Change) → AreKeyChanges by old (s ∷ new) cs ↔ ((more : List Change) × (cs ≡ inserted s ∷ more) × AreKeyChanges by old new more)
    came = head_step by (IsKeyChangeOf by old (s ∷ new)) (IsKeyChangeOf by old new) (inserted s) some came_cases (inl refl, free_above (key s) old h) came_others (change_above (key s) old new h k)

  -- Rows of equal keys, below all others.
  module _ (r s : Row) (old new : List Row) (same : AreEqual by.order (key r) (key s)) (h : Ascend by.order (key r) (keys_of by.width old)) (k : Ascend by.order (key r) (keys_of by.width new)) where
    -- the key of no other row equals that of r
    no_old : (x : Row) → In x old → ¬ AreEqual by.order (key r) (key x)
    no_old x i = unequal by.order (key r) (key x) (row_above by.order by.width (key r) x old h i)

    no_new : (x : Row) → In x new → ¬ AreEqual by.order (key r) (key x)
    no_new x i = unequal by.order (key r) (key x) (row_above by.order by.width (key r) x new k i)

    met_cases : (c : Change) → IsKeyChangeOf by (r ∷ old) (s ∷ new) c → (c ≡ changed r s) ⊎ IsKeyChangeOf by old new c
    met_cases (inserted x) is = elim is.0 [
      | inl e ↦ absurd (is.1 r (inl refl) (subst (λ (z : Row). AreEqual by.order (key r) (key z)) (sym e) same))
      | inr i ↦ inr (i, λ y j. is.1 y (inr j))
    ]
    met_cases (deleted x) is = elim is.0 [
      | inl e ↦ absurd (is.1 s (inl refl) (subst (λ (z : Row). AreEqual by.order (key s) (key z)) (sym e) (equal_sym by.order (key r) (key s) same)))
      | inr i ↦ inr (i, λ y j. is.1 y (inr j))
    ]
    met_cases (changed x y) is = elim is.0 [
      | inl e ↦ elim is.1 [
        | inl f ↦ inl (ap (λ z. changed z y) e ∙ ap (changed r) f)
        | inr j ↦ absurd (no_new y j (subst (λ (z : Row). AreEqual by.order (key z) (key y)) e is.2))
      ]
      | inr i ↦ elim is.1 [
        | inl f ↦ absurd (no_old x i (equal_trans by.order (key r) (key s) (key x) same
            (equal_sym by.order (key x) (key s) (subst (λ (z : Row). AreEqual by.order (key x) (key z)) f is.2))))
        | inr j ↦ inr (i, j, is.2, is.3)
      ]
    ]

    met_others : (c : Change) → IsKeyChangeOf by old new c → IsKeyChangeOf by (r ∷ old) (s ∷ new) c
    met_others (inserted x) is = (inr is.0, free_with r (key x) old (no_new x is.0) is.1)
    met_others (deleted x) is = (inr is.0, free_with s (key x) new (λ e. no_old x is.0 (equal_trans by.order (key r) (key s) (key x) same e)) is.1)
    met_others (changed x y) is = (inr is.0, inr is.1, is.2, is.3)

    pub met_other : IsAbove by.order None (key r) → r.values ≢ s.values → (cs : List Change)
        → AreKeyChanges by (r ∷ old) (s ∷ new) cs ↔ ((more : List Change) × (cs ≡ changed r s ∷ more) × AreKeyChanges by old new more)
    met_other some other = head_step by (IsKeyChangeOf by (r ∷ old) (s ∷ new)) (IsKeyChangeOf by old new) (changed r s) some met_cases (inl refl, inl refl, same, other) met_others (change_above (key r) old new h k)

    met_same_on : r.values ≡ s.values → (c : Change) → IsKeyChangeOf by (r ∷ old) (s ∷ new) c → IsKeyChangeOf by old new c
    met_same_on alike c is = elim (met_cases c is) [
      | inl e ↦ let at : IsKeyChangeOf by (r ∷ old) (s ∷ new) (changed r s) = subst (IsKeyChangeOf by (r ∷ old) (s ∷ new)) e is in absurd (at.3 alike)
      | inr q ↦ q
    ]

    pub met_same : r.values ≡ s.values → (cs : List Change) → AreKeyChanges by (r ∷ old) (s ∷ new) cs ↔ AreKeyChanges by old new cs
    met_same alike cs = (
      λ all. (all.0, λ c. (λ i. met_same_on alike c ((all.1 c).0 i), λ is. (all.1 c).1 (met_others c is))),
      λ all. (all.0, λ c. (λ i. met_others c ((all.1 c).0 i), λ is. (all.1 c).1 (met_same_on alike c is))),
    )

  -- There are no changes between no rows and none.
  pub no_changes : (cs : List Change) → AreKeyChanges by [] [] cs ↔ (cs ≡ [])
  no_changes cs = (none cs, λ e. subst (AreKeyChanges by [] []) (sym e) (tt, λ c. (λ i. absurd i, λ is. not_one c is)))
    where
      not_one : (c : Change) → ¬ IsKeyChangeOf by [] [] c
      not_one (inserted r) is = is.0
      not_one (deleted r) is = is.0
      not_one (changed r s) is = is.0

      none : (cs : List Change) → AreKeyChanges by [] [] cs → cs ≡ []
      none [] all = refl
      none (c ∷ cs) all = absurd (not_one c ((all.1 c).0 (inl refl)))
