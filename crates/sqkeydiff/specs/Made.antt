-- What changes make of a table's rows, by key (own).
use Rattle.std.specs.Prelude.{◌≢◌, ◌↔◌, ◌⊎◌, List, map, None}
use Rattle.sqpage.specs.Lists.{In}
use Rattle.sqrows.specs.Rows.{Row}
use Rattle.sqdiff.specs.Changes.{Change, inserted, deleted, changed}
use Rattle.sqkeydiff.specs.declared.key.KeyOrder.{KeyOrder}
use Rattle.sqkeydiff.specs.KeyChanges.{key_of, keys_of, key_in, Ascend, AreEqual, IsFree}

-- A change that a table's rows can take: a row comes whose key equals none of theirs, one of them goes, or one of them gets other
-- values under an equal key.
abbrev pub IsTaken : KeyOrder → (old : List Row) → Change → Type 0
IsTaken by old (inserted r) = IsFree by (key_of by.width r) old
IsTaken by old (deleted r) = In r old
IsTaken by old (changed r s) = In r old × AreEqual by.order (key_of by.width r) (key_of by.width s) × (r.values ≢ s.values)

-- A row that changes make of a table's rows: one whose key equals that of no change, one that came, or what one that changed is now.
abbrev pub IsMade : KeyOrder → (old : List Row) → List Change → Row → Type 0
IsMade by old cs r =
    (In r old × ((c : Change) → In c cs → ¬ AreEqual by.order (key_in by.width c) (key_of by.width r)))
    ⊎ (In (inserted r) cs ⊎ ((was : Row) × In (changed was r) cs))

-- What changes make of a table's rows, in the order of their keys.
abbrev pub AreMade : KeyOrder → (old : List Row) → List Change → List Row → Type 0
AreMade by old cs rows = Ascend by.order None (keys_of by.width rows) × ((r : Row) → In r rows ↔ IsMade by old cs r)

-- Changes in the order of their keys, each of which the old rows can take, that make the new rows of them.
abbrev pub Make : KeyOrder → (old new : List Row) → List Change → Type 0
Make by old new cs = Ascend by.order None (map (key_in by.width) cs) × ((c : Change) → In c cs → IsTaken by old c) × AreMade by old cs new
