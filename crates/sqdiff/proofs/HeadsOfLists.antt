-- The changes between two lists of rows, at their heads.
use Rattle.std.proofs.Common.{◌≡◌, ◌≢◌, ◌↔◌, ◌⊎◌, ◌∙◌, List, [], ◌∷◌, map, Option, None, inl, inr, refl, sym, ap, subst}
use Rattle.std.specs.Prelude.{ℤ}
use Rattle.sqpage.specs.Lists.{In}
use Rattle.sqrows.specs.Rows.{Row}
use Rattle.sqdiff.specs.Changes.{Change, inserted, deleted, changed, rowid_of, IsAbove, Rise, rowids, IsFree, IsChangeOf, AreChanges}
use Rattle.sqdiff.proofs.RisingRowids.{not_above, above_none, apart, above_trans, rise_from, in_map_back, above_each, row_above}

-- These are all of which P holds, by rowid.
abbrev AreAll : (P : Change → Type 0) → List Change → Type 0
AreAll P cs = Rise None (map rowid_of cs) × ((c : Change) → In c cs ↔ P c)

-- Of which P holds is h, and then those of which Q does.
module _ (P Q : Change → Type 0) (h : Change) (some : IsAbove None (rowid_of h))
    (cases : (c : Change) → P c → (c ≡ h) ⊎ Q c) (here : P h) (others : (c : Change) → Q c → P c)
    (above : (c : Change) → Q c → IsAbove (rowid_of h) (rowid_of c)) where
  first_is : (c : Change) (more : List Change) → AreAll P (c ∷ more) → c ≡ h
  first_is c more all = elim (cases c ((all.1 c).0 (inl refl))) [
    | inl e ↦ e
    | inr q ↦ elim ((all.1 h).1 here) [
      | inl e ↦ sym e
      | inr i ↦ absurd (not_above (rowid_of h) (above_trans (rowid_of h) (rowid_of c) (rowid_of h) (above c q) (above_each rowid_of (rowid_of c) h more all.0.1 i)))
    ]
  ]

  rest_all : (c : Change) (more : List Change) → AreAll P (c ∷ more) → AreAll Q more
  rest_all c more all = (
    rise_from (rowid_of c) None (map rowid_of more) all.0.1 (λ id i. let b = in_map_back rowid_of id more i in subst (IsAbove None) (sym b.2) (above_none (rowid_of c) (rowid_of b.0) (above_each rowid_of (rowid_of c) b.0 more all.0.1 b.1))),
    λ z. (on z, back z),
  )
    where
      same : c ≡ h
      same = first_is c more all

      on : (z : Change) → In z more → Q z
      on z i = elim (cases z ((all.1 z).0 (inr i))) [
        | inl e ↦ absurd (apart (rowid_of c) (rowid_of z) (above_each rowid_of (rowid_of c) z more all.0.1 i) (ap rowid_of (same ∙ sym e)))
        | inr q ↦ q
      ]

      back : (z : Change) → Q z → In z more
      back z q = elim ((all.1 z).1 (others z q)) [
        | inl e ↦ absurd (apart (rowid_of h) (rowid_of z) (above z q) (ap rowid_of (sym same ∙ sym e)))
        | inr i ↦ i
      ]

  head_on : (cs : List Change) → AreAll P cs → (more : List Change) × (cs ≡ h ∷ more) × AreAll Q more
  head_on [] all = absurd ((all.1 h).1 here)
  head_on (c ∷ more) all = (more, ap (λ z. z ∷ more) (first_is c more all), rest_all c more all)

  head_back : (more : List Change) → AreAll Q more → AreAll P (h ∷ more)
  head_back more all = (
    (some, rise_from None (rowid_of h) (map rowid_of more) all.0 (λ id i. let b = in_map_back rowid_of id more i in subst (IsAbove (rowid_of h)) (sym b.2) (above b.0 ((all.1 b.0).0 b.1)))),
    λ z. (on z, back z),
  )
    where
      on : (z : Change) → In z (h ∷ more) → P z
      on z (inl e) = subst P (sym e) here
      on z (inr i) = others z ((all.1 z).0 i)

      back : (z : Change) → P z → In z (h ∷ more)
      back z p = elim (cases z p) [ inl e ↦ inl e | inr q ↦ inr ((all.1 z).1 q) ]

  pub head_step : (cs : List Change) → AreAll P cs ↔ ((more : List Change) × (cs ≡ h ∷ more) × AreAll Q more)
  head_step cs = (head_on cs, λ m. subst (AreAll P) (sym m.1) (head_back m.0 m.2))

-- the rowid of a change between rows that rise is above what they rise from
change_above : (before : Option ℤ) (old new : List Row) → Rise before (rowids old) → Rise before (rowids new) → (c : Change) → IsChangeOf old new c → IsAbove before (rowid_of c)
change_above before old new h k (inserted r) is = row_above before r new k is.0
change_above before old new h k (deleted r) is = row_above before r old h is.0
change_above before old new h k (changed r s) is = row_above before r old h is.0

free_above : (before : Option ℤ) (rows : List Row) → Rise before (rowids rows) → IsFree before rows
free_above before rows h r i same = apart before r.rowid (row_above before r rows h i) (sym same)

-- a row before these has no rowid of theirs
pub free_with : (r : Row) (id : Option ℤ) (rows : List Row) → r.rowid ≢ id → IsFree id rows → IsFree id (r ∷ rows)
free_with r id rows not free x (inl e) same = not (ap (λ (z : Row). z.rowid) (sym e) ∙ same)
free_with r id rows not free x (inr i) same = free x i same

-- A row that went: the new rows are above it.
module _ (r : Row) (old new : List Row) (some : IsAbove None r.rowid) (h : Rise r.rowid (rowids old)) (k : Rise r.rowid (rowids new)) where
  went_cases : (c : Change) → IsChangeOf (r ∷ old) new c → (c ≡ deleted r) ⊎ IsChangeOf old new c
  went_cases (inserted x) is = inr (is.0, λ y i. is.1 y (inr i))
  went_cases (deleted x) is = elim is.0 [ inl e ↦ inl (ap deleted e) | inr i ↦ inr (i, is.1) ]
  went_cases (changed x y) is = elim is.0 [
    | inl e ↦ absurd (apart r.rowid y.rowid (row_above r.rowid y new k is.1) (ap (λ (z : Row). z.rowid) (sym e) ∙ is.2))
    | inr i ↦ inr (i, is.1, is.2, is.3)
  ]

  went_others : (c : Change) → IsChangeOf old new c → IsChangeOf (r ∷ old) new c
  went_others (inserted x) is = (is.0, free_with r x.rowid old (apart r.rowid x.rowid (row_above r.rowid x new k is.0)) is.1)
  went_others (deleted x) is = (inr is.0, is.1)
  went_others (changed x y) is = (inr is.0, is.1, is.2, is.3)

  pub went : (cs : List Change) → AreChanges (r ∷ old) new cs ↔ ((more : List Change) × (cs ≡ deleted r ∷ more) × AreChanges old new more)
  went = head_step (IsChangeOf (r ∷ old) new) (IsChangeOf old new) (deleted r) some went_cases (inl refl, free_above r.rowid new k) went_others (change_above r.rowid old new h k)

-- A row that came: the old rows are above it.
module _ (s : Row) (old new : List Row) (some : IsAbove None s.rowid) (h : Rise s.rowid (rowids old)) (k : Rise s.rowid (rowids new)) where
  came_cases : (c : Change) → IsChangeOf old (s ∷ new) c → (c ≡ inserted s) ⊎ IsChangeOf old new c
  came_cases (inserted x) is = elim is.0 [ inl e ↦ inl (ap inserted e) | inr i ↦ inr (i, is.1) ]
  came_cases (deleted x) is = inr (is.0, λ y i. is.1 y (inr i))
  came_cases (changed x y) is = elim is.1 [
    | inl e ↦ absurd (apart s.rowid x.rowid (row_above s.rowid x old h is.0) (ap (λ (z : Row). z.rowid) (sym e) ∙ sym is.2))
    | inr i ↦ inr (is.0, i, is.2, is.3)
  ]

  came_others : (c : Change) → IsChangeOf old new c → IsChangeOf old (s ∷ new) c
  came_others (inserted x) is = (inr is.0, is.1)
  came_others (deleted x) is = (is.0, free_with s x.rowid new (apart s.rowid x.rowid (row_above s.rowid x old h is.0)) is.1)
  came_others (changed x y) is = (is.0, inr is.1, is.2, is.3)

  pub came : (cs : List Change) → AreChanges old (s ∷ new) cs ↔ ((more : List Change) × (cs ≡ inserted s ∷ more) × AreChanges old new more)
  came = head_step (IsChangeOf old (s ∷ new)) (IsChangeOf old new) (inserted s) some came_cases (inl refl, free_above s.rowid old h) came_others (change_above s.rowid old new h k)

-- Rows of the same rowid, below all others.
module _ (r s : Row) (old new : List Row) (same : r.rowid ≡ s.rowid) (h : Rise r.rowid (rowids old)) (k : Rise r.rowid (rowids new)) where
  -- a row of the same rowid as r or s is none of the others
  no_old : (x : Row) → In x old → x.rowid ≢ r.rowid
  no_old x i e = apart r.rowid x.rowid (row_above r.rowid x old h i) (sym e)

  no_new : (x : Row) → In x new → x.rowid ≢ r.rowid
  no_new x i e = apart r.rowid x.rowid (row_above r.rowid x new k i) (sym e)

  met_cases : (c : Change) → IsChangeOf (r ∷ old) (s ∷ new) c → (c ≡ changed r s) ⊎ IsChangeOf old new c
  met_cases (inserted x) is = elim is.0 [
    | inl e ↦ absurd (is.1 r (inl refl) (same ∙ ap (λ (z : Row). z.rowid) (sym e)))
    | inr i ↦ inr (i, λ y j. is.1 y (inr j))
  ]
  met_cases (deleted x) is = elim is.0 [
    | inl e ↦ absurd (is.1 s (inl refl) (sym same ∙ ap (λ (z : Row). z.rowid) (sym e)))
    | inr i ↦ inr (i, λ y j. is.1 y (inr j))
  ]
  met_cases (changed x y) is = elim is.0 [
    | inl e ↦ elim is.1 [
      | inl f ↦ inl (ap (λ z. changed z y) e ∙ ap (changed r) f)
      | inr j ↦ absurd (no_new y j (sym is.2 ∙ ap (λ (z : Row). z.rowid) e))
    ]
    | inr i ↦ elim is.1 [
      | inl f ↦ absurd (no_old x i (is.2 ∙ ap (λ (z : Row). z.rowid) f ∙ sym same))
      | inr j ↦ inr (i, j, is.2, is.3)
    ]
  ]

  met_others : (c : Change) → IsChangeOf old new c → IsChangeOf (r ∷ old) (s ∷ new) c
  met_others (inserted x) is = (inr is.0, free_with r x.rowid old (λ e. no_new x is.0 (sym e)) is.1)
  met_others (deleted x) is = (inr is.0, free_with s x.rowid new (λ e. no_old x is.0 (sym e ∙ sym same)) is.1)
  met_others (changed x y) is = (inr is.0, inr is.1, is.2, is.3)

  pub met_other : IsAbove None r.rowid → r.values ≢ s.values → (cs : List Change) → AreChanges (r ∷ old) (s ∷ new) cs ↔ ((more : List Change) × (cs ≡ changed r s ∷ more) × AreChanges old new more)
  met_other some other = head_step (IsChangeOf (r ∷ old) (s ∷ new)) (IsChangeOf old new) (changed r s) some met_cases (inl refl, inl refl, same, other) met_others (change_above r.rowid old new h k)

  met_same_on : r.values ≡ s.values → (c : Change) → IsChangeOf (r ∷ old) (s ∷ new) c → IsChangeOf old new c
  met_same_on alike c is = elim (met_cases c is) [
    | inl e ↦ let at : IsChangeOf (r ∷ old) (s ∷ new) (changed r s) = subst (IsChangeOf (r ∷ old) (s ∷ new)) e is in absurd (at.3 alike)
    | inr q ↦ q
  ]

  pub met_same : r.values ≡ s.values → (cs : List Change) → AreChanges (r ∷ old) (s ∷ new) cs ↔ AreChanges old new cs
  met_same alike cs = (
    λ all. (all.0, λ c. (λ i. met_same_on alike c ((all.1 c).0 i), λ is. (all.1 c).1 (met_others c is))),
    λ all. (all.0, λ c. (λ i. met_others c ((all.1 c).0 i), λ is. (all.1 c).1 (met_same_on alike c is))),
  )

-- There are no changes between no rows and none.
pub no_changes : (cs : List Change) → AreChanges [] [] cs ↔ (cs ≡ [])
no_changes cs = (none cs, λ e. subst (AreChanges [] []) (sym e) (tt, λ c. (λ i. absurd i, λ is. not_one c is)))
  where
    not_one : (c : Change) → ¬ IsChangeOf [] [] c
    not_one (inserted r) is = is.0
    not_one (deleted r) is = is.0
    not_one (changed r s) is = is.0

    none : (cs : List Change) → AreChanges [] [] cs → cs ≡ []
    none [] all = refl
    none (c ∷ cs) all = absurd (not_one c ((all.1 c).0 (inl refl)))
