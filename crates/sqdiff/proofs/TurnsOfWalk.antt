-- What is left, turn by turn.
use Rattle.std.proofs.Common.{◌≡◌, ◌≢◌, ◌↔◌, ◌⊎◌, ◌∙◌, Bool, true, false, List, [], ◌∷◌, Option, Some, None, inl, inr, refl, sym, ap, subst}
use Rattle.std.specs.Prelude.{ℤ, ◌<ℤ◌, IsTrue}
use Rattle.sqval.specs.Database.{Database}
use Rattle.sqpage.specs.Lists.{In}
use Rattle.sqrows.specs.Rows.{Row}
use Rattle.sqrows.specs.RowCursor.{RowsLeft, RowsMove, IsAtRow}
use Rattle.sqdiff.specs.declared.side.Place.{Place}
use Rattle.sqdiff.specs.declared.side.Place.TheVariants.{Between, At, End}
use Rattle.sqdiff.specs.declared.side.Side.{Side}
use Rattle.sqdiff.specs.declared.diff.Kind.TheVariants.{Inserted, Deleted, Changed}
use Rattle.sqdiff.specs.declared.diff.Diff.{Diff}
use Rattle.sqdiff.specs.declared.turn.Turn.{Turn}
use Rattle.sqdiff.specs.declared.turn.Turn.TheVariants.{Same, Told, Ended}
use Rattle.sqdiff.specs.Changes.{Change, inserted, deleted, changed, rowids, IsAbove, Rise, AreChanges}
use Rattle.sqdiff.specs.DiffCursor.{LeftFrom, SideLeft, Stands, AreStanding, ChangesLeft, IsAtChange, ChangesMove}
use Rattle.sqdiff.specs.internal.Turns.{IsSeen, Passes, AreAlike, TurnMoves, Turns}
use Rattle.sqdiff.proofs.RisingRowids.{above_none}
use Rattle.sqdiff.proofs.HeadsOfLists.{went, came, met_other, met_same, no_changes}

place_cases : (p : Place) → IsSeen p → ((id : ℤ) × (p ≡ At id)) ⊎ (p ≡ End)
place_cases Between seen = absurd (seen refl)
place_cases (At id) seen = inl (id, refl)
place_cases End seen = inr refl

-- A row of a side was passed.
abbrev pub passed : Side → ℤ → Side
passed side id = record { rows = side.rows; last = Some id; place = Between }

-- A side that is at a row.
module _ (d : Database) (side : Side) (id : ℤ) (stands : Stands d side) (is : side.place ≡ At id) where
  at_row : (rows : List Row) → SideLeft d side rows → RowsMove d true rows side.rows
  at_row rows left = subst (λ (p : Place). LeftFrom d p side.rows rows) is left

  from_row : (rows : List Row) → RowsMove d true rows side.rows → SideLeft d side rows
  from_row rows left = subst (λ (p : Place). LeftFrom d p side.rows rows) (sym is) left

  rowid_at : (r : Row) → IsAtRow side.rows r → r.rowid ≡ Some id
  rowid_at r at = sym at.rowid ∙ (stands.placed id is).0

  above_at : (r : Row) → IsAtRow side.rows r → IsAbove side.last r.rowid
  above_at r at = subst (IsAbove side.last) (sym (rowid_at r at)) (stands.placed id is).1

  some_at : (r : Row) → IsAtRow side.rows r → IsAbove None r.rowid
  some_at r at = above_none side.last r.rowid (above_at r at)

  stands_passed : Stands d (passed side id)
  stands_passed = record { over = stands.over; placed = λ k e. cc }

  row_passes : Passes d side (passed side id)
  row_passes rows left =
      let m = at_row rows left in (
        m.1,
        m.4,
        λ r i. subst (In r) (sym m.2) (inr i),
        λ h. let rise : Rise side.last (rowids (m.0 ∷ m.1)) = subst (λ (rs : List Row). Rise side.last (rowids rs)) m.2 h in
            subst (λ (k : Option ℤ). Rise k (rowids m.1)) (rowid_at m.0 m.3) rise.1,
      )

-- the rows of a side that is seen rise from below its first one
rise_behind : (d : Database) (side : Side) (id : ℤ) → Stands d side → IsSeen side.place → ((other : ℤ) → side.place ≡ At other → id <ℤ other)
    → (rows : List Row) → SideLeft d side rows → Rise side.last (rowids rows) → Rise (Some id) (rowids rows)
rise_behind d side id stands seen below rows left rise = elim (place_cases side.place seen) [
  | inl at ↦
      let m = at_row d side at.0 stands at.1 rows left in
      let rowid : m.0.rowid ≡ Some at.0 = rowid_at d side at.0 stands at.1 m.0 m.3 in
      let behind : Rise side.last (rowids (m.0 ∷ m.1)) = subst (λ (rs : List Row). Rise side.last (rowids rs)) m.2 rise in
      subst (λ (rs : List Row). Rise (Some id) (rowids rs)) (sym m.2) (subst (IsAbove (Some id)) (sym rowid) (below at.0 at.1), behind.1)
  | inr end ↦
      let none : rows ≡ [] = subst (λ (p : Place). LeftFrom d p side.rows rows) end left in
      subst (λ (rs : List Row). Rise (Some id) (rowids rs)) (sym none) tt
]

pub passes_none : (d : Database) (side : Side) → Passes d side side
passes_none d side rows left = (rows, left, λ r i. i, λ h. h)

pub passes_both : (d : Database) (a b c : Side) → Passes d a b → Passes d b c → Passes d a c
passes_both d a b c first then rows left =
    let f = first rows left in
    let t = then f.0 f.1 in
    (t.0, t.1, λ r i. f.2 r (t.2 r i), λ h. t.3 (f.3 h))

-- The next row is one of the old table.
module _ (d e : Database) (old : Diff) (id : ℤ) (standing : AreStanding d e old) (is : old.old_side.place ≡ At id)
    (below : (other : ℤ) → old.new_side.place ≡ At other → id <ℤ other) (seen : IsSeen old.new_side.place) where
  abbrev behind_old : Diff
  behind_old = record { old_side = passed old.old_side id; new_side = old.new_side }

  deleted_on : (cs : List Change) → ChangesLeft d e old cs → ChangesMove d e (Some Deleted) cs behind_old
  deleted_on cs h =
      let m = at_row d old.old_side id standing.0 is h.0 h.2 in
      let rowid : m.0.rowid ≡ Some id = rowid_at d old.old_side id standing.0 is m.0 m.3 in
      let rise : Rise old.old_side.last (rowids (m.0 ∷ m.1)) = subst (λ (rs : List Row). Rise old.old_side.last (rowids rs)) m.2 h.4 in
      let others : Rise (Some id) (rowids h.1) = rise_behind e old.new_side id standing.1 seen below h.1 h.3 h.5 in
      let all : AreChanges (m.0 ∷ m.1) h.1 cs = subst (λ (rs : List Row). AreChanges rs h.1 cs) m.2 h.6 in
      let w = (went m.0 m.1 h.1 (some_at d old.old_side id standing.0 is m.0 m.3) rise.1 (subst (λ (k : Option ℤ). Rise k (rowids h.1)) (sym rowid) others) cs).0 all in
      (deleted m.0, w.0, w.1, m.3, (m.1, h.1, m.4, h.3, subst (λ (k : Option ℤ). Rise k (rowids m.1)) rowid rise.1, h.5, w.2))

  deleted_back : (cs more : List Change) (c : Change) → cs ≡ c ∷ more → IsAtChange behind_old Deleted c → ChangesLeft d e behind_old more → ChangesLeft d e old cs
  deleted_back cs more (inserted r) same at h = absurd at
  deleted_back cs more (changed r s) same at h = absurd at
  deleted_back cs more (deleted r) same at h =
      let rowid : r.rowid ≡ Some id = rowid_at d old.old_side id standing.0 is r at in
      let rise : Rise r.rowid (rowids h.0) = subst (λ (k : Option ℤ). Rise k (rowids h.0)) (sym rowid) h.4 in
      let others : Rise (Some id) (rowids h.1) = rise_behind e old.new_side id standing.1 seen below h.1 h.3 h.5 in
      let w = (went r h.0 h.1 (some_at d old.old_side id standing.0 is r at) rise (subst (λ (k : Option ℤ). Rise k (rowids h.1)) (sym rowid) others) cs).1 (more, same, h.6) in
      (r ∷ h.0, h.1, from_row d old.old_side id standing.0 is (r ∷ h.0) (r, h.0, refl, at, h.2), h.3, (above_at d old.old_side id standing.0 is r at, rise), h.5, w)

  pub takes_old : Turns d e old behind_old (Told Deleted)
  takes_old = record {
    standing = (stands_passed d old.old_side id standing.0 is, standing.1);
    moves = λ cs. (deleted_on cs, λ m. deleted_back cs m.1 m.0 m.2 m.3 m.4);
    old_passes = row_passes d old.old_side id standing.0 is;
    new_passes = passes_none e old.new_side;
  }

-- The next row is one of the new table.
module _ (d e : Database) (old : Diff) (id : ℤ) (standing : AreStanding d e old) (is : old.new_side.place ≡ At id)
    (below : (other : ℤ) → old.old_side.place ≡ At other → id <ℤ other) (seen : IsSeen old.old_side.place) where
  abbrev behind_new : Diff
  behind_new = record { old_side = old.old_side; new_side = passed old.new_side id }

  inserted_on : (cs : List Change) → ChangesLeft d e old cs → ChangesMove d e (Some Inserted) cs behind_new
  inserted_on cs h =
      let m = at_row e old.new_side id standing.1 is h.1 h.3 in
      let rowid : m.0.rowid ≡ Some id = rowid_at e old.new_side id standing.1 is m.0 m.3 in
      let rise : Rise old.new_side.last (rowids (m.0 ∷ m.1)) = subst (λ (rs : List Row). Rise old.new_side.last (rowids rs)) m.2 h.5 in
      let others : Rise (Some id) (rowids h.0) = rise_behind d old.old_side id standing.0 seen below h.0 h.2 h.4 in
      let all : AreChanges h.0 (m.0 ∷ m.1) cs = subst (λ (rs : List Row). AreChanges h.0 rs cs) m.2 h.6 in
      let w = (came m.0 h.0 m.1 (some_at e old.new_side id standing.1 is m.0 m.3) (subst (λ (k : Option ℤ). Rise k (rowids h.0)) (sym rowid) others) rise.1 cs).0 all in
      (inserted m.0, w.0, w.1, m.3, (h.0, m.1, h.2, m.4, h.4, subst (λ (k : Option ℤ). Rise k (rowids m.1)) rowid rise.1, w.2))

  inserted_back : (cs more : List Change) (c : Change) → cs ≡ c ∷ more → IsAtChange behind_new Inserted c → ChangesLeft d e behind_new more → ChangesLeft d e old cs
  inserted_back cs more (deleted r) same at h = absurd at
  inserted_back cs more (changed r s) same at h = absurd at
  inserted_back cs more (inserted r) same at h =
      let rowid : r.rowid ≡ Some id = rowid_at e old.new_side id standing.1 is r at in
      let rise : Rise r.rowid (rowids h.1) = subst (λ (k : Option ℤ). Rise k (rowids h.1)) (sym rowid) h.5 in
      let others : Rise (Some id) (rowids h.0) = rise_behind d old.old_side id standing.0 seen below h.0 h.2 h.4 in
      let w = (came r h.0 h.1 (some_at e old.new_side id standing.1 is r at) (subst (λ (k : Option ℤ). Rise k (rowids h.0)) (sym rowid) others) rise cs).1 (more, same, h.6) in
      (h.0, r ∷ h.1, h.2, from_row e old.new_side id standing.1 is (r ∷ h.1) (r, h.1, refl, at, h.3), h.4, (above_at e old.new_side id standing.1 is r at, rise), w)

  pub takes_new : Turns d e old behind_new (Told Inserted)
  takes_new = record {
    standing = (standing.0, stands_passed e old.new_side id standing.1 is);
    moves = λ cs. (inserted_on cs, λ m. inserted_back cs m.1 m.0 m.2 m.3 m.4);
    old_passes = passes_none d old.old_side;
    new_passes = row_passes e old.new_side id standing.1 is;
  }

-- The next rows are of the same rowid.
module _ (d e : Database) (old : Diff) (id : ℤ) (standing : AreStanding d e old) (is : old.old_side.place ≡ At id) (too : old.new_side.place ≡ At id)
    (alike : Bool) (are : AreAlike old alike) where
  abbrev behind_both : Diff
  behind_both = record { old_side = passed old.old_side id; new_side = passed old.new_side id }

  same_rowid : (r s : Row) → IsAtRow old.old_side.rows r → IsAtRow old.new_side.rows s → r.rowid ≡ s.rowid
  same_rowid r s at and = rowid_at d old.old_side id standing.0 is r at ∙ sym (rowid_at e old.new_side id standing.1 too s and)

  -- the rows that both are at have the same values just where it was found so
  told_alike : (r s : Row) → IsAtRow old.old_side.rows r → IsAtRow old.new_side.rows s → IsTrue alike ↔ (r.values ≡ s.values)
  told_alike r s at and =
      let p : r ≡ are.0 = (are.2 r).0 at in
      let q : s ≡ are.1 = (are.3 s).0 and in (
        λ so. ap (λ (z : Row). z.values) p ∙ are.4.0 so ∙ sym (ap (λ (z : Row). z.values) q),
        λ same. are.4.1 (sym (ap (λ (z : Row). z.values) p) ∙ same ∙ ap (λ (z : Row). z.values) q),
      )

  -- the parts of what is left
  abbrev Met : List Change → Type 0
  Met cs =
      (r s : Row) × (more less : List Row) × IsAtRow old.old_side.rows r × IsAtRow old.new_side.rows s
      × RowsLeft d old.old_side.rows more × RowsLeft e old.new_side.rows less × Rise (Some id) (rowids more)
      × Rise (Some id) (rowids less) × AreChanges (r ∷ more) (s ∷ less) cs

  met_on : (cs : List Change) → ChangesLeft d e old cs → Met cs
  met_on cs h =
      let m = at_row d old.old_side id standing.0 is h.0 h.2 in
      let n = at_row e old.new_side id standing.1 too h.1 h.3 in
      let rise : Rise old.old_side.last (rowids (m.0 ∷ m.1)) = subst (λ (rs : List Row). Rise old.old_side.last (rowids rs)) m.2 h.4 in
      let more : Rise old.new_side.last (rowids (n.0 ∷ n.1)) = subst (λ (rs : List Row). Rise old.new_side.last (rowids rs)) n.2 h.5 in (
        m.0,
        n.0,
        m.1,
        n.1,
        m.3,
        n.3,
        m.4,
        n.4,
        subst (λ (k : Option ℤ). Rise k (rowids m.1)) (rowid_at d old.old_side id standing.0 is m.0 m.3) rise.1,
        subst (λ (k : Option ℤ). Rise k (rowids n.1)) (rowid_at e old.new_side id standing.1 too n.0 n.3) more.1,
        subst (λ (rs : List Row). AreChanges rs (n.0 ∷ n.1) cs) m.2 (subst (λ (rs : List Row). AreChanges h.0 rs cs) n.2 h.6),
      )

  met_back : (cs : List Change) → Met cs → ChangesLeft d e old cs
  met_back cs h = (
    h.0 ∷ h.2,
    h.1 ∷ h.3,
    from_row d old.old_side id standing.0 is (h.0 ∷ h.2) (h.0, h.2, refl, h.4, h.6),
    from_row e old.new_side id standing.1 too (h.1 ∷ h.3) (h.1, h.3, refl, h.5, h.7),
    (above_at d old.old_side id standing.0 is h.0 h.4, subst (λ (k : Option ℤ). Rise k (rowids h.2)) (sym (rowid_at d old.old_side id standing.0 is h.0 h.4)) h.8),
    (above_at e old.new_side id standing.1 too h.1 h.5, subst (λ (k : Option ℤ). Rise k (rowids h.3)) (sym (rowid_at e old.new_side id standing.1 too h.1 h.5)) h.9),
    h.10,
  )

  -- the rows behind rise from the rowid of the row of the old table
  module _ (r s : Row) (more less : List Row) (at : IsAtRow old.old_side.rows r) (and : IsAtRow old.new_side.rows s) (h : Rise (Some id) (rowids more)) (k : Rise (Some id) (rowids less)) where
    old_rise : Rise r.rowid (rowids more)
    old_rise = subst (λ (z : Option ℤ). Rise z (rowids more)) (sym (rowid_at d old.old_side id standing.0 is r at)) h

    new_rise : Rise r.rowid (rowids less)
    new_rise = subst (λ (z : Option ℤ). Rise z (rowids less)) (sym (rowid_at d old.old_side id standing.0 is r at)) k

    same_step : r.values ≡ s.values → (cs : List Change) → AreChanges (r ∷ more) (s ∷ less) cs ↔ AreChanges more less cs
    same_step same = met_same r s more less (same_rowid r s at and) old_rise new_rise same

    other_step : r.values ≢ s.values → (cs : List Change) → AreChanges (r ∷ more) (s ∷ less) cs ↔ ((ds : List Change) × (cs ≡ changed r s ∷ ds) × AreChanges more less ds)
    other_step other = met_other r s more less (same_rowid r s at and) old_rise new_rise (some_at d old.old_side id standing.0 is r at) other

  same_on : alike ≡ true → (cs : List Change) → ChangesLeft d e old cs → ChangesLeft d e behind_both cs
  same_on so cs left =
      let m = met_on cs left in
      let same : m.0.values ≡ m.1.values = (told_alike m.0 m.1 m.4 m.5).0 so in
      (m.2, m.3, m.6, m.7, m.8, m.9, (same_step m.0 m.1 m.2 m.3 m.4 m.5 m.8 m.9 same cs).0 m.10)

  same_back : alike ≡ true → (cs : List Change) → ChangesLeft d e behind_both cs → ChangesLeft d e old cs
  same_back so cs h =
      let at : IsAtRow old.old_side.rows are.0 = (are.2 are.0).1 refl in
      let and : IsAtRow old.new_side.rows are.1 = (are.3 are.1).1 refl in
      let same : are.0.values ≡ are.1.values = are.4.0 so in
      met_back cs (are.0, are.1, h.0, h.1, at, and, h.2, h.3, h.4, h.5, (same_step are.0 are.1 h.0 h.1 at and h.4 h.5 same cs).1 h.6)

  differ : alike ≡ false → (r s : Row) → IsAtRow old.old_side.rows r → IsAtRow old.new_side.rows s → r.values ≢ s.values
  differ not r s at and same = let so : alike ≡ true = (told_alike r s at and).1 same in cc

  changed_on : alike ≡ false → (cs : List Change) → ChangesLeft d e old cs → ChangesMove d e (Some Changed) cs behind_both
  changed_on not cs left =
      let m = met_on cs left in
      let w = (other_step m.0 m.1 m.2 m.3 m.4 m.5 m.8 m.9 (differ not m.0 m.1 m.4 m.5) cs).0 m.10 in
      (changed m.0 m.1, w.0, w.1, (m.4, m.5), (m.2, m.3, m.6, m.7, m.8, m.9, w.2))

  changed_back : alike ≡ false → (cs more : List Change) (c : Change) → cs ≡ c ∷ more → IsAtChange behind_both Changed c → ChangesLeft d e behind_both more → ChangesLeft d e old cs
  changed_back not cs more (inserted r) same at h = absurd at
  changed_back not cs more (deleted r) same at h = absurd at
  changed_back not cs more (changed r s) same at h =
      met_back cs (r, s, h.0, h.1, at.0, at.1, h.2, h.3, h.4, h.5, (other_step r s h.0 h.1 at.0 at.1 h.4 h.5 (differ not r s at.0 at.1) cs).1 (more, same, h.6))

  both_turn : (t : Turn) → ((cs : List Change) → ChangesLeft d e old cs ↔ TurnMoves d e t cs behind_both) → Turns d e old behind_both t
  both_turn t moves = record {
    standing = (stands_passed d old.old_side id standing.0 is, stands_passed e old.new_side id standing.1 too);
    moves = moves;
    old_passes = row_passes d old.old_side id standing.0 is;
    new_passes = row_passes e old.new_side id standing.1 too;
  }

  pub takes_same : alike ≡ true → Turns d e old behind_both Same
  takes_same so = both_turn Same (λ cs. (same_on so cs, same_back so cs))

  pub takes_changed : alike ≡ false → Turns d e old behind_both (Told Changed)
  takes_changed not = both_turn (Told Changed) (λ cs. (changed_on not cs, λ m. changed_back not cs m.1 m.0 m.2 m.3 m.4))

-- There is no next row.
none_left : (d : Database) (side : Side) → IsSeen side.place → ((id : ℤ) → side.place ≢ At id) → (rows : List Row) → SideLeft d side rows ↔ (rows ≡ [])
none_left d side seen none rows = elim (place_cases side.place seen) [
  | inl at ↦ absurd (none at.0 at.1)
  | inr end ↦ (λ left. subst (λ (p : Place). LeftFrom d p side.rows rows) end left, λ is. subst (λ (p : Place). LeftFrom d p side.rows rows) (sym end) is)
]

pub takes_none : (d e : Database) (old : Diff) → AreStanding d e old → IsSeen old.old_side.place → IsSeen old.new_side.place
    → ((id : ℤ) → old.old_side.place ≢ At id) → ((id : ℤ) → old.new_side.place ≢ At id) → Turns d e old old Ended
takes_none d e old standing seen too none neither = record {
  standing = standing;
  moves = λ cs. (on cs, back cs);
  old_passes = passes_none d old.old_side;
  new_passes = passes_none e old.new_side;
}
  where
    on : (cs : List Change) → ChangesLeft d e old cs → cs ≡ []
    on cs h =
        let x : h.0 ≡ [] = (none_left d old.old_side seen none h.0).0 h.2 in
        let y : h.1 ≡ [] = (none_left e old.new_side too neither h.1).0 h.3 in
        (no_changes cs).0 (subst (λ (rs : List Row). AreChanges rs [] cs) x (subst (λ (rs : List Row). AreChanges h.0 rs cs) y h.6))

    back : (cs : List Change) → cs ≡ [] → ChangesLeft d e old cs
    back cs is = ([], [], (none_left d old.old_side seen none []).1 refl, (none_left e old.new_side too neither []).1 refl, tt, tt, (no_changes cs).1 is)
