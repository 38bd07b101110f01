-- What the changes between two lists of rows are.
use Rattle.std.proofs.Common.{◌≡◌, ◌≢◌, ◌↔◌, ◌⊎◌, ◌∙◌, List, [], ◌∷◌, Option, Some, None, inl, inr, refl, sym, ap, subst}
use Rattle.std.specs.Prelude.{ℤ}
use Rattle.sqpage.specs.Lists.{In}
use Rattle.sqrows.specs.Rows.{Row}
use Rattle.sqdiff.specs.Changes.{Change, inserted, deleted, changed, rowid_of, Rise, rowids, IsFree, IsChangeOf, AreChanges}
use Rattle.sqdiff.specs.Made.{IsTaken, IsMade, AreMade, Make}
use Rattle.sqdiff.proofs.RisingRowids.{once_by, same_lists}
use Rattle.sqdiff.proofs.SameValues.{same_values, same_rowid, found, row_same}

-- There is one list of changes at most.
pub changes_once : (old new : List Row) (cs ds : List Change) → AreChanges old new cs → AreChanges old new ds → cs ≡ ds
changes_once old new cs ds all more = same_lists rowid_of None None cs ds all.0 more.0 (λ c. (λ i. (more.1 c).1 ((all.1 c).0 i), λ i. (all.1 c).1 ((more.1 c).0 i)))

-- Changes make one list of rows at most.
made_once : (old : List Row) (cs : List Change) (xs ys : List Row) → AreMade old cs xs → AreMade old cs ys → xs ≡ ys
made_once old cs xs ys one other = same_lists (λ (r : Row). r.rowid) None None xs ys one.0 other.0 (λ r. (λ i. (other.1 r).1 ((one.1 r).0 i), λ i. (one.1 r).1 ((other.1 r).0 i)))

-- The changes between old and new rows make the new rows of the old ones.
module _ (old new : List Row) (cs : List Change) (h : Rise None (rowids old)) (k : Rise None (rowids new)) (all : AreChanges old new cs) where
  row_once : (rows : List Row) (r s : Row) → Rise None (rowids rows) → In r rows → In s rows → r.rowid ≡ s.rowid → r ≡ s
  row_once rows r s rise i j same = once_by (λ (z : Row). z.rowid) None r s rows rise i j same

  -- no change is of a row that both have
  kept : (s : Row) → In s old → In s new → (c : Change) → IsChangeOf old new c → rowid_of c ≢ s.rowid
  kept s i j (inserted x) is same = is.1 s i (sym same)
  kept s i j (deleted x) is same = is.1 s j (sym same)
  kept s i j (changed x y) is same =
      let was : x ≡ s = row_once old x s h is.0 i same in
      let now : y ≡ s = row_once new y s k is.1 j (sym is.2 ∙ same) in
      is.3 (ap (λ (z : Row). z.values) (was ∙ sym now))

  new_made : (s : Row) → In s new → IsMade old cs s
  new_made s i = elim (found s.rowid old) [
    | inl f ↦ elim (same_values f.0.values s.values) [
      | inl e ↦ let at : In s old = subst (λ (z : Row). In z old) (row_same f.0 s f.2 e) f.1 in inl (at, λ c j. kept s at i c ((all.1 c).0 j))
      | inr not ↦ inr (inr (f.0, (all.1 (changed f.0 s)).1 (f.1, i, f.2, not)))
    ]
    | inr free ↦ inr (inl ((all.1 (inserted s)).1 (i, free)))
  ]

  made_new : (s : Row) → IsMade old cs s → In s new
  made_new s (inl m) = elim (found s.rowid new) [
    | inl f ↦ elim (same_values s.values f.0.values) [
      | inl e ↦ subst (λ (z : Row). In z new) (row_same f.0 s f.2 (sym e)) f.1
      | inr not ↦ absurd (m.1 (changed s f.0) ((all.1 (changed s f.0)).1 (m.0, f.1, sym f.2, not)) refl)
    ]
    | inr free ↦ absurd (m.1 (deleted s) ((all.1 (deleted s)).1 (m.0, free)) refl)
  ]
  made_new s (inr (inl i)) = ((all.1 (inserted s)).0 i).0
  made_new s (inr (inr m)) = ((all.1 (changed m.0 s)).0 m.1).1

  new_are_made : AreMade old cs new
  new_are_made = (k, λ s. (new_made s, made_new s))

  taken : (c : Change) → IsChangeOf old new c → IsTaken old c
  taken (inserted r) is = is.1
  taken (deleted r) is = is.0
  taken (changed r s) is = (is.0, is.2, is.3)

  changes_make : Make old new cs
  changes_make = (all.0, λ c i. taken c ((all.1 c).0 i), new_are_made)

-- some change of these is of this rowid, or none is
found_change : (id : Option ℤ) (cs : List Change) → ((c : Change) × In c cs × (rowid_of c ≡ id)) ⊎ ((c : Change) → In c cs → rowid_of c ≢ id)
found_change id [] = inr (λ c i. absurd i)
found_change id (x ∷ cs) = elim (same_rowid (rowid_of x) id) [
  | inl e ↦ inl (x, inl refl, e)
  | inr not ↦ elim (found_change id cs) [ inl f ↦ inl (f.0, inr f.1, f.2) | inr none ↦ inr (none_with not none) ]
]
  where
    none_with : rowid_of x ≢ id → ((c : Change) → In c cs → rowid_of c ≢ id) → (c : Change) → In c (x ∷ cs) → rowid_of c ≢ id
    none_with not none c (inl e) = λ same. not (ap rowid_of (sym e) ∙ same)
    none_with not none c (inr i) = none c i

-- What makes the new rows of the old ones are the changes between them.
module _ (old new : List Row) (cs : List Change) (h : Rise None (rowids old)) (k : Rise None (rowids new)) (m : Make old new cs) where
  old_once : (r s : Row) → In r old → In s old → r.rowid ≡ s.rowid → r ≡ s
  old_once r s i j same = once_by (λ (z : Row). z.rowid) None r s old h i j same

  one_change : (c d : Change) → In c cs → In d cs → rowid_of c ≡ rowid_of d → c ≡ d
  one_change c d i j same = once_by rowid_of None c d cs m.0 i j same

  gone : (r s : Row) → In (deleted r) cs → IsMade old cs s → s.rowid ≢ r.rowid
  gone r s i (inl n) e = n.1 (deleted r) i (sym e)
  gone r s i (inr (inl j)) e = let x : inserted s ≡ deleted r = one_change (inserted s) (deleted r) j i e in cc
  gone r s i (inr (inr w)) e =
      let t = m.1 (changed w.0 s) w.1 in
      let x : changed w.0 s ≡ deleted r = one_change (changed w.0 s) (deleted r) w.1 i (t.1 ∙ e) in cc

  is_change : (c : Change) → In c cs → IsChangeOf old new c
  is_change (inserted r) i = ((m.2.1 r).1 (inr (inl i)), m.1 (inserted r) i)
  is_change (deleted r) i = (m.1 (deleted r) i, λ s j e. gone r s i ((m.2.1 s).0 j) e)
  is_change (changed r s) i = let t = m.1 (changed r s) i in (t.0, (m.2.1 s).1 (inr (inr (r, i))), t.1, t.2)

  came : (r : Row) → IsFree r.rowid old → IsMade old cs r → In (inserted r) cs
  came r free (inl a) = absurd (free r a.0 refl)
  came r free (inr (inl i)) = i
  came r free (inr (inr w)) = let t = m.1 (changed w.0 r) w.1 in absurd (free w.0 t.0 t.1)

  went : (r : Row) → In r old → IsFree r.rowid new → (c : Change) → In c cs → rowid_of c ≡ r.rowid → In (deleted r) cs
  went r at free (inserted x) i e = absurd (m.1 (inserted x) i r at (sym e))
  went r at free (deleted x) i e = subst (λ (z : Row). In (deleted z) cs) (old_once x r (m.1 (deleted x) i) at e) i
  went r at free (changed x y) i e =
      let t = m.1 (changed x y) i in
      absurd (free y ((m.2.1 y).1 (inr (inr (x, i)))) (sym t.1 ∙ e))

  became : (r s : Row) → IsChangeOf old new (changed r s) → IsMade old cs s → In (changed r s) cs
  became r s is (inl a) = absurd (is.3 (ap (λ (z : Row). z.values) (old_once r s is.0 a.0 is.2)))
  became r s is (inr (inl i)) = absurd (m.1 (inserted s) i r is.0 is.2)
  became r s is (inr (inr w)) =
      let t = m.1 (changed w.0 s) w.1 in
      subst (λ (z : Row). In (changed z s) cs) (old_once w.0 r t.0 is.0 (t.1 ∙ sym is.2)) w.1

  is_told : (c : Change) → IsChangeOf old new c → In c cs
  is_told (inserted r) is = came r is.1 ((m.2.1 r).0 is.0)
  is_told (deleted r) is = elim (found_change r.rowid cs) [
    | inl f ↦ went r is.0 is.1 f.0 f.1 f.2
    | inr none ↦ absurd (is.1 r ((m.2.1 r).1 (inl (is.0, none))) refl)
  ]
  is_told (changed r s) is = became r s is ((m.2.1 s).0 is.1)

  makers_are_changes : AreChanges old new cs
  makers_are_changes = (m.0, λ c. (is_change c, is_told c))

-- The changes between old and new rows are just what makes the new rows of the old ones.
pub changes_are_makers : (old new : List Row) (cs : List Change) → Rise None (rowids old) → Rise None (rowids new) → AreChanges old new cs ↔ Make old new cs
changes_are_makers old new cs h k = (λ all. changes_make old new cs h k all, λ m. makers_are_changes old new cs h k m)

-- What the changes make of the old rows is the new rows.
pub changes_apply : (old new : List Row) (cs : List Change) → Rise None (rowids old) → Rise None (rowids new) → AreChanges old new cs
    → (rows : List Row) → AreMade old cs rows ↔ (rows ≡ new)
changes_apply old new cs h k all rows = (
  λ made. made_once old cs rows new made (new_are_made old new cs h k all),
  λ is. subst (AreMade old cs) (sym is) (new_are_made old new cs h k all),
)
