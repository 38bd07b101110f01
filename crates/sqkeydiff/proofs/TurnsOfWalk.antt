-- What is left, turn by turn.
use Rattle.std.proofs.Common.{◌≡◌, ◌≢◌, ◌↔◌, ◌⊎◌, ◌∙◌, Bool, true, false, List, [], ◌∷◌, Option, Some, None, inl, inr, refl, sym, ap, subst}
use Rattle.std.specs.Prelude.{IsTrue}
use Rattle.std.specs.declared.cmp.Ordering.TheVariants.{Less, Equal}
use Rattle.sqval.specs.Database.{Database}
use Rattle.sqpage.specs.Lists.{In}
use Rattle.sqrows.specs.Rows.{Row}
use Rattle.sqrows.specs.RowCursor.{RowsLeft, RowsMove, IsAtRow}
use Rattle.sqlite_value.specs.declared.value.Value.{Value}
use Rattle.sqlite_value.specs.Keys.{entry_cmp}
use Rattle.sqdiff.specs.declared.diff.Kind.TheVariants.{Inserted, Deleted, Changed}
use Rattle.sqdiff.specs.Changes.{Change, inserted, deleted, changed}
use Rattle.sqkeydiff.specs.declared.key.KeyOrder.{KeyOrder}
use Rattle.sqkeydiff.specs.declared.side.Place.{Place}
use Rattle.sqkeydiff.specs.declared.side.Place.TheVariants.{Between, At, End}
use Rattle.sqkeydiff.specs.declared.side.Side.{Side}
use Rattle.sqkeydiff.specs.declared.diff.KeyDiff.{KeyDiff}
use Rattle.sqkeydiff.specs.declared.turn.Turn.{Turn}
use Rattle.sqkeydiff.specs.declared.turn.Turn.TheVariants.{Same, Told, Ended}
use Rattle.sqkeydiff.specs.KeyChanges.{key_of, keys_of, IsAbove, Ascend, AreEqual, AreKeyChanges}
use Rattle.sqkeydiff.specs.KeyCursor.{LeftFrom, SideLeft, Stands, AreStanding, KeyChangesLeft, IsAtKeyChange, KeyChangesMove}
use Rattle.sqkeydiff.specs.internal.Turns.{IsSeen, Passes, AreAlike, TurnMoves, Turns}
use Rattle.sqkeydiff.proofs.AscendingKeys.{above_none, ascend_equal}
use Rattle.sqkeydiff.proofs.HeadsOfLists.{went, came, met_other, met_same, no_changes}

pub place_cases : (p : Place) → IsSeen p → ((k : List Value) × (p ≡ At k)) ⊎ (p ≡ End)
place_cases Between seen = absurd (seen refl)
place_cases (At k) seen = inl (k, refl)
place_cases End seen = inr refl

-- A row of a side was passed.
abbrev pub passed : Side → List Value → Side
passed side k = record { rows = side.rows; last = Some k; place = Between }

-- The rows ascend from what equals.
from_same : (by : KeyOrder) (a b : Option (List Value)) (rows : List Row) → a ≡ b → Ascend by.order a (keys_of by.width rows) → Ascend by.order b (keys_of by.width rows)
from_same by a b rows e h = subst (λ (z : Option (List Value)). Ascend by.order z (keys_of by.width rows)) e h

-- A side that is at a row.
module _ (d : Database) (by : KeyOrder) (side : Side) (k : List Value) (stands : Stands d by side) (is : side.place ≡ At k) where
  at_row : (rows : List Row) → SideLeft d side rows → RowsMove d true rows side.rows
  at_row rows left = subst (λ (p : Place). LeftFrom d p side.rows rows) is left

  from_row : (rows : List Row) → RowsMove d true rows side.rows → SideLeft d side rows
  from_row rows left = subst (λ (p : Place). LeftFrom d p side.rows rows) (sym is) left

  key_at : (r : Row) → IsAtRow side.rows r → key_of by.width r ≡ Some k
  key_at r at = (stands.placed k is).0 r at

  above_at : (r : Row) → IsAtRow side.rows r → IsAbove by.order side.last (key_of by.width r)
  above_at r at = subst (IsAbove by.order side.last) (sym (key_at r at)) (stands.placed k is).1

  some_at : (r : Row) → IsAtRow side.rows r → IsAbove by.order None (key_of by.width r)
  some_at r at = above_none by.order side.last (key_of by.width r) (above_at r at)

  stands_passed : Stands d by (passed side k)
  stands_passed = record { over = stands.over; placed = λ other e. cc }

  row_passes : Passes d by side (passed side k)
  row_passes rows left =
      let m = at_row rows left in (
        m.1,
        m.4,
        λ r i. subst (In r) (sym m.2) (inr i),
        λ h. let ascend : Ascend by.order side.last (keys_of by.width (m.0 ∷ m.1)) = subst (λ (rs : List Row). Ascend by.order side.last (keys_of by.width rs)) m.2 h in
            from_same by (key_of by.width m.0) (Some k) m.1 (key_at m.0 m.3) ascend.1,
      )

-- the keys of the rows of a side that is seen ascend from below its first one
ascend_behind : (d : Database) (by : KeyOrder) (side : Side) (k : List Value) → Stands d by side → IsSeen side.place
    → ((other : List Value) → side.place ≡ At other → entry_cmp by.order k other ≡ Less)
    → (rows : List Row) → SideLeft d side rows → Ascend by.order side.last (keys_of by.width rows) → Ascend by.order (Some k) (keys_of by.width rows)
ascend_behind d by side k stands seen below rows left ascend = elim (place_cases side.place seen) [
  | inl at ↦
      let m = at_row d by side at.0 stands at.1 rows left in
      let own : key_of by.width m.0 ≡ Some at.0 = key_at d by side at.0 stands at.1 m.0 m.3 in
      let behind : Ascend by.order side.last (keys_of by.width (m.0 ∷ m.1)) = subst (λ (rs : List Row). Ascend by.order side.last (keys_of by.width rs)) m.2 ascend in
      subst (λ (rs : List Row). Ascend by.order (Some k) (keys_of by.width rs)) (sym m.2) (subst (IsAbove by.order (Some k)) (sym own) (below at.0 at.1), behind.1)
  | inr end ↦
      let none : rows ≡ [] = subst (λ (p : Place). LeftFrom d p side.rows rows) end left in
      subst (λ (rs : List Row). Ascend by.order (Some k) (keys_of by.width rs)) (sym none) tt
]

pub passes_none : (d : Database) (by : KeyOrder) (side : Side) → Passes d by side side
passes_none d by side rows left = (rows, left, λ r i. i, λ h. h)

pub passes_both : (d : Database) (by : KeyOrder) (a b c : Side) → Passes d by a b → Passes d by b c → Passes d by a c
passes_both d by a b c first then rows left =
    let f = first rows left in
    let t = then f.0 f.1 in
    (t.0, t.1, λ r i. f.2 r (t.2 r i), λ h. t.3 (f.3 h))

-- The next row is one of the old table.
module _ (d e : Database) (old : KeyDiff) (k : List Value) (standing : AreStanding d e old) (is : old.old_side.place ≡ At k)
    (below : (other : List Value) → old.new_side.place ≡ At other → entry_cmp old.key.order k other ≡ Less) (seen : IsSeen old.new_side.place) where
  abbrev behind_old : KeyDiff
  behind_old = record old { old_side = passed old.old_side k }

  deleted_on : (cs : List Change) → KeyChangesLeft d e old cs → KeyChangesMove d e (Some Deleted) cs behind_old
  deleted_on cs h =
      let by = old.key in
      let m = at_row d by old.old_side k standing.0 is h.0 h.2 in
      let own : key_of by.width m.0 ≡ Some k = key_at d by old.old_side k standing.0 is m.0 m.3 in
      let ascend : Ascend by.order old.old_side.last (keys_of by.width (m.0 ∷ m.1)) = subst (λ (rs : List Row). Ascend by.order old.old_side.last (keys_of by.width rs)) m.2 h.4 in
      let others : Ascend by.order (Some k) (keys_of by.width h.1) = ascend_behind e by old.new_side k standing.1 seen below h.1 h.3 h.5 in
      let all : AreKeyChanges by (m.0 ∷ m.1) h.1 cs = subst (λ (rs : List Row). AreKeyChanges by rs h.1 cs) m.2 h.6 in
      let w = (went by m.0 m.1 h.1 (some_at d by old.old_side k standing.0 is m.0 m.3) ascend.1 (from_same by (Some k) (key_of by.width m.0) h.1 (sym own) others) cs).0 all in
      (deleted m.0, w.0, w.1, m.3, (m.1, h.1, m.4, h.3, from_same by (key_of by.width m.0) (Some k) m.1 own ascend.1, h.5, w.2))

  deleted_back : (cs more : List Change) (c : Change) → cs ≡ c ∷ more → IsAtKeyChange behind_old Deleted c → KeyChangesLeft d e behind_old more → KeyChangesLeft d e old cs
  deleted_back cs more (inserted r) same at h = absurd at
  deleted_back cs more (changed r s) same at h = absurd at
  deleted_back cs more (deleted r) same at h =
      let by = old.key in
      let own : key_of by.width r ≡ Some k = key_at d by old.old_side k standing.0 is r at in
      let ascend : Ascend by.order (key_of by.width r) (keys_of by.width h.0) = from_same by (Some k) (key_of by.width r) h.0 (sym own) h.4 in
      let others : Ascend by.order (Some k) (keys_of by.width h.1) = ascend_behind e by old.new_side k standing.1 seen below h.1 h.3 h.5 in
      let w = (went by r h.0 h.1 (some_at d by old.old_side k standing.0 is r at) ascend (from_same by (Some k) (key_of by.width r) h.1 (sym own) others) cs).1 (more, same, h.6) in
      (r ∷ h.0, h.1, from_row d by old.old_side k standing.0 is (r ∷ h.0) (r, h.0, refl, at, h.2), h.3, (above_at d by old.old_side k standing.0 is r at, ascend), h.5, w)

  pub takes_old : Turns d e old behind_old (Told Deleted)
  takes_old = record {
    standing = (stands_passed d old.key old.old_side k standing.0 is, standing.1);
    same = refl;
    moves = λ cs. (deleted_on cs, λ m. deleted_back cs m.1 m.0 m.2 m.3 m.4);
    old_passes = row_passes d old.key old.old_side k standing.0 is;
    new_passes = passes_none e old.key old.new_side;
  }

-- The next row is one of the new table.
module _ (d e : Database) (old : KeyDiff) (k : List Value) (standing : AreStanding d e old) (is : old.new_side.place ≡ At k)
    (below : (other : List Value) → old.old_side.place ≡ At other → entry_cmp old.key.order k other ≡ Less) (seen : IsSeen old.old_side.place) where
  abbrev behind_new : KeyDiff
  behind_new = record old { new_side = passed old.new_side k }

  inserted_on : (cs : List Change) → KeyChangesLeft d e old cs → KeyChangesMove d e (Some Inserted) cs behind_new
  inserted_on cs h =
      let by = old.key in
      let m = at_row e by old.new_side k standing.1 is h.1 h.3 in
      let own : key_of by.width m.0 ≡ Some k = key_at e by old.new_side k standing.1 is m.0 m.3 in
      let ascend : Ascend by.order old.new_side.last (keys_of by.width (m.0 ∷ m.1)) = subst (λ (rs : List Row). Ascend by.order old.new_side.last (keys_of by.width rs)) m.2 h.5 in
      let others : Ascend by.order (Some k) (keys_of by.width h.0) = ascend_behind d by old.old_side k standing.0 seen below h.0 h.2 h.4 in
      let all : AreKeyChanges by h.0 (m.0 ∷ m.1) cs = subst (λ (rs : List Row). AreKeyChanges by h.0 rs cs) m.2 h.6 in
      let w = (came by m.0 h.0 m.1 (some_at e by old.new_side k standing.1 is m.0 m.3) (from_same by (Some k) (key_of by.width m.0) h.0 (sym own) others) ascend.1 cs).0 all in
      (inserted m.0, w.0, w.1, m.3, (h.0, m.1, h.2, m.4, h.4, from_same by (key_of by.width m.0) (Some k) m.1 own ascend.1, w.2))

  inserted_back : (cs more : List Change) (c : Change) → cs ≡ c ∷ more → IsAtKeyChange behind_new Inserted c → KeyChangesLeft d e behind_new more → KeyChangesLeft d e old cs
  inserted_back cs more (deleted r) same at h = absurd at
  inserted_back cs more (changed r s) same at h = absurd at
  inserted_back cs more (inserted r) same at h =
      let by = old.key in
      let own : key_of by.width r ≡ Some k = key_at e by old.new_side k standing.1 is r at in
      let ascend : Ascend by.order (key_of by.width r) (keys_of by.width h.1) = from_same by (Some k) (key_of by.width r) h.1 (sym own) h.5 in
      let others : Ascend by.order (Some k) (keys_of by.width h.0) = ascend_behind d by old.old_side k standing.0 seen below h.0 h.2 h.4 in
      let w = (came by r h.0 h.1 (some_at e by old.new_side k standing.1 is r at) (from_same by (Some k) (key_of by.width r) h.0 (sym own) others) ascend cs).1 (more, same, h.6) in
      (h.0, r ∷ h.1, h.2, from_row e by old.new_side k standing.1 is (r ∷ h.1) (r, h.1, refl, at, h.3), h.4, (above_at e by old.new_side k standing.1 is r at, ascend), w)

  pub takes_new : Turns d e old behind_new (Told Inserted)
  takes_new = record {
    standing = (standing.0, stands_passed e old.key old.new_side k standing.1 is);
    same = refl;
    moves = λ cs. (inserted_on cs, λ m. inserted_back cs m.1 m.0 m.2 m.3 m.4);
    old_passes = passes_none d old.key old.old_side;
    new_passes = row_passes e old.key old.new_side k standing.1 is;
  }

-- The next rows are of equal keys.
module _ (d e : Database) (old : KeyDiff) (k l : List Value) (standing : AreStanding d e old) (is : old.old_side.place ≡ At k) (too : old.new_side.place ≡ At l)
    (tie : entry_cmp old.key.order k l ≡ Equal) (alike : Bool) (are : AreAlike old alike) where
  abbrev behind_both : KeyDiff
  behind_both = record old { old_side = passed old.old_side k; new_side = passed old.new_side l }

  own_key : (r : Row) → IsAtRow old.old_side.rows r → key_of old.key.width r ≡ Some k
  own_key r at = key_at d old.key old.old_side k standing.0 is r at

  other_key : (s : Row) → IsAtRow old.new_side.rows s → key_of old.key.width s ≡ Some l
  other_key s and = key_at e old.key old.new_side l standing.1 too s and

  same_key : (r s : Row) → IsAtRow old.old_side.rows r → IsAtRow old.new_side.rows s → AreEqual old.key.order (key_of old.key.width r) (key_of old.key.width s)
  same_key r s at and =
      subst (λ (z : Option (List Value)). AreEqual old.key.order z (key_of old.key.width s)) (sym (own_key r at))
      (subst (λ (z : Option (List Value)). AreEqual old.key.order (Some k) z) (sym (other_key s and)) tie)

  -- the rows that both are at have the same values just where it was found so
  told_alike : (r s : Row) → IsAtRow old.old_side.rows r → IsAtRow old.new_side.rows s → IsTrue alike ↔ (r.values ≡ s.values)
  told_alike r s at and =
      let p : r ≡ are.0 = (are.2 r).0 at in
      let q : s ≡ are.1 = (are.3 s).0 and in (
        λ so. ap (λ (z : Row). z.values) p ∙ are.4.0 so ∙ sym (ap (λ (z : Row). z.values) q),
        λ same. are.4.1 (sym (ap (λ (z : Row). z.values) p) ∙ same ∙ ap (λ (z : Row). z.values) q),
      )

  -- the parts of what is left
  abbrev Met : List Change → Type 0
  Met cs =
      (r s : Row) × (more less : List Row) × IsAtRow old.old_side.rows r × IsAtRow old.new_side.rows s
      × RowsLeft d old.old_side.rows more × RowsLeft e old.new_side.rows less × Ascend old.key.order (Some k) (keys_of old.key.width more)
      × Ascend old.key.order (Some l) (keys_of old.key.width less) × AreKeyChanges old.key (r ∷ more) (s ∷ less) cs

  met_on : (cs : List Change) → KeyChangesLeft d e old cs → Met cs
  met_on cs h =
      let by = old.key in
      let m = at_row d by old.old_side k standing.0 is h.0 h.2 in
      let n = at_row e by old.new_side l standing.1 too h.1 h.3 in
      let ascend : Ascend by.order old.old_side.last (keys_of by.width (m.0 ∷ m.1)) = subst (λ (rs : List Row). Ascend by.order old.old_side.last (keys_of by.width rs)) m.2 h.4 in
      let more : Ascend by.order old.new_side.last (keys_of by.width (n.0 ∷ n.1)) = subst (λ (rs : List Row). Ascend by.order old.new_side.last (keys_of by.width rs)) n.2 h.5 in (
        m.0,
        n.0,
        m.1,
        n.1,
        m.3,
        n.3,
        m.4,
        n.4,
        from_same by (key_of by.width m.0) (Some k) m.1 (own_key m.0 m.3) ascend.1,
        from_same by (key_of by.width n.0) (Some l) n.1 (other_key n.0 n.3) more.1,
        subst (λ (rs : List Row). AreKeyChanges by rs (n.0 ∷ n.1) cs) m.2 (subst (λ (rs : List Row). AreKeyChanges by h.0 rs cs) n.2 h.6),
      )

  met_back : (cs : List Change) → Met cs → KeyChangesLeft d e old cs
  met_back cs h = (
    h.0 ∷ h.2,
    h.1 ∷ h.3,
    from_row d old.key old.old_side k standing.0 is (h.0 ∷ h.2) (h.0, h.2, refl, h.4, h.6),
    from_row e old.key old.new_side l standing.1 too (h.1 ∷ h.3) (h.1, h.3, refl, h.5, h.7),
    (above_at d old.key old.old_side k standing.0 is h.0 h.4, from_same old.key (Some k) (key_of old.key.width h.0) h.2 (sym (own_key h.0 h.4)) h.8),
    (above_at e old.key old.new_side l standing.1 too h.1 h.5, from_same old.key (Some l) (key_of old.key.width h.1) h.3 (sym (other_key h.1 h.5)) h.9),
    h.10,
  )

  -- the keys of the rows behind ascend from that of the row of the old table
  module _ (r s : Row) (more less : List Row) (at : IsAtRow old.old_side.rows r) (and : IsAtRow old.new_side.rows s)
      (h : Ascend old.key.order (Some k) (keys_of old.key.width more)) (j : Ascend old.key.order (Some l) (keys_of old.key.width less)) where
    old_ascend : Ascend old.key.order (key_of old.key.width r) (keys_of old.key.width more)
    old_ascend = from_same old.key (Some k) (key_of old.key.width r) more (sym (own_key r at)) h

    new_ascend : Ascend old.key.order (key_of old.key.width r) (keys_of old.key.width less)
    new_ascend = ascend_equal old.key.order (key_of old.key.width s) (key_of old.key.width r) (keys_of old.key.width less) (same_key r s at and)
        (from_same old.key (Some l) (key_of old.key.width s) less (sym (other_key s and)) j)

    same_step : r.values ≡ s.values → (cs : List Change) → AreKeyChanges old.key (r ∷ more) (s ∷ less) cs ↔ AreKeyChanges old.key more less cs
    same_step same = met_same old.key r s more less (same_key r s at and) old_ascend new_ascend same

    other_step : r.values ≢ s.values → (cs : List Change)
        → AreKeyChanges old.key (r ∷ more) (s ∷ less) cs ↔ ((ds : List Change) × (cs ≡ changed r s ∷ ds) × AreKeyChanges old.key more less ds)
    other_step other = met_other old.key r s more less (same_key r s at and) old_ascend new_ascend (some_at d old.key old.old_side k standing.0 is r at) other

  same_on : alike ≡ true → (cs : List Change) → KeyChangesLeft d e old cs → KeyChangesLeft d e behind_both cs
  same_on so cs left =
      let m = met_on cs left in
      let same : m.0.values ≡ m.1.values = (told_alike m.0 m.1 m.4 m.5).0 so in
      (m.2, m.3, m.6, m.7, m.8, m.9, (same_step m.0 m.1 m.2 m.3 m.4 m.5 m.8 m.9 same cs).0 m.10)

  same_back : alike ≡ true → (cs : List Change) → KeyChangesLeft d e behind_both cs → KeyChangesLeft d e old cs
  same_back so cs h =
      let at : IsAtRow old.old_side.rows are.0 = (are.2 are.0).1 refl in
      let and : IsAtRow old.new_side.rows are.1 = (are.3 are.1).1 refl in
      let same : are.0.values ≡ are.1.values = are.4.0 so in
      met_back cs (are.0, are.1, h.0, h.1, at, and, h.2, h.3, h.4, h.5, (same_step are.0 are.1 h.0 h.1 at and h.4 h.5 same cs).1 h.6)

  differ : alike ≡ false → (r s : Row) → IsAtRow old.old_side.rows r → IsAtRow old.new_side.rows s → r.values ≢ s.values
  differ not r s at and same = let so : alike ≡ true = (told_alike r s at and).1 same in cc

  changed_on : alike ≡ false → (cs : List Change) → KeyChangesLeft d e old cs → KeyChangesMove d e (Some Changed) cs behind_both
  changed_on not cs left =
      let m = met_on cs left in
      let w = (other_step m.0 m.1 m.2 m.3 m.4 m.5 m.8 m.9 (differ not m.0 m.1 m.4 m.5) cs).0 m.10 in
      (changed m.0 m.1, w.0, w.1, (m.4, m.5), (m.2, m.3, m.6, m.7, m.8, m.9, w.2))

  changed_back : alike ≡ false → (cs more : List Change) (c : Change) → cs ≡ c ∷ more → IsAtKeyChange behind_both Changed c → KeyChangesLeft d e behind_both more → KeyChangesLeft d e old cs
  changed_back not cs more (inserted r) same at h = absurd at
  changed_back not cs more (deleted r) same at h = absurd at
  changed_back not cs more (changed r s) same at h =
      met_back cs (r, s, h.0, h.1, at.0, at.1, h.2, h.3, h.4, h.5, (other_step r s h.0 h.1 at.0 at.1 h.4 h.5 (differ not r s at.0 at.1) cs).1 (more, same, h.6))

  both_turn : (t : Turn) → ((cs : List Change) → KeyChangesLeft d e old cs ↔ TurnMoves d e t cs behind_both) → Turns d e old behind_both t
  both_turn t moves = record {
    standing = (stands_passed d old.key old.old_side k standing.0 is, stands_passed e old.key old.new_side l standing.1 too);
    same = refl;
    moves = moves;
    old_passes = row_passes d old.key old.old_side k standing.0 is;
    new_passes = row_passes e old.key old.new_side l standing.1 too;
  }

  pub takes_same : alike ≡ true → Turns d e old behind_both Same
  takes_same so = both_turn Same (λ cs. (same_on so cs, same_back so cs))

  pub takes_changed : alike ≡ false → Turns d e old behind_both (Told Changed)
  takes_changed not = both_turn (Told Changed) (λ cs. (changed_on not cs, λ m. changed_back not cs m.1 m.0 m.2 m.3 m.4))

-- There is no next row.
none_left : (d : Database) (side : Side) → IsSeen side.place → ((k : List Value) → side.place ≢ At k) → (rows : List Row) → SideLeft d side rows ↔ (rows ≡ [])
none_left d side seen none rows = elim (place_cases side.place seen) [
  | inl at ↦ absurd (none at.0 at.1)
  | inr end ↦ (λ left. subst (λ (p : Place). LeftFrom d p side.rows rows) end left, λ is. subst (λ (p : Place). LeftFrom d p side.rows rows) (sym end) is)
]

pub takes_none : (d e : Database) (old : KeyDiff) → AreStanding d e old → IsSeen old.old_side.place → IsSeen old.new_side.place
    → ((k : List Value) → old.old_side.place ≢ At k) → ((k : List Value) → old.new_side.place ≢ At k) → Turns d e old old Ended
takes_none d e old standing seen too none neither = record {
  standing = standing;
  same = refl;
  moves = λ cs. (on cs, back cs);
  old_passes = passes_none d old.key old.old_side;
  new_passes = passes_none e old.key old.new_side;
}
  where
    on : (cs : List Change) → KeyChangesLeft d e old cs → cs ≡ []
    on cs h =
        let x : h.0 ≡ [] = (none_left d old.old_side seen none h.0).0 h.2 in
        let y : h.1 ≡ [] = (none_left e old.new_side too neither h.1).0 h.3 in
        (no_changes old.key cs).0 (subst (λ (rs : List Row). AreKeyChanges old.key rs [] cs) x (subst (λ (rs : List Row). AreKeyChanges old.key h.0 rs cs) y h.6))

    back : (cs : List Change) → cs ≡ [] → KeyChangesLeft d e old cs
    back cs is = ([], [], (none_left d old.old_side seen none []).1 refl, (none_left e old.new_side too neither []).1 refl, tt, tt, (no_changes old.key cs).1 is)
