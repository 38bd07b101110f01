-- What changes make of a table's rows (own).
use Rattle.std.specs.Prelude.{◌≡◌, ◌≢◌, ◌↔◌, ◌⊎◌, List, map, None}
use Rattle.sqpage.specs.Lists.{In}
use Rattle.sqrows.specs.Rows.{Row}
use Rattle.sqdiff.specs.Changes.{Change, inserted, deleted, changed, rowid_of, Rise, rowids, IsFree}

-- A change that a table's rows can take: a row comes whose rowid none of them has, one of them goes, or one of them gets other values.
abbrev pub IsTaken : (old : List Row) → Change → Type 0
IsTaken old (inserted r) = IsFree r.rowid old
IsTaken old (deleted r) = In r old
IsTaken old (changed r s) = In r old × (r.rowid ≡ s.rowid) × (r.values ≢ s.values)

-- A row that changes make of a table's rows: one that no change is of, one that came, or what one that changed is now.
abbrev pub IsMade : (old : List Row) → List Change → Row → Type 0
IsMade old cs r =
    (In r old × ((c : Change) → In c cs → rowid_of c ≢ r.rowid))
    ⊎ (In (inserted r) cs ⊎ ((was : Row) × In (changed was r) cs))

-- What changes make of a table's rows, by rowid.
abbrev pub AreMade : (old : List Row) → List Change → List Row → Type 0
AreMade old cs rows = Rise None (rowids rows) × ((r : Row) → In r rows ↔ IsMade old cs r)

-- Changes by rowid, each of which the old rows can take, that make the new rows of them.
abbrev pub Make : (old new : List Row) → List Change → Type 0
Make old new cs = Rise None (map rowid_of cs) × ((c : Change) → In c cs → IsTaken old c) × AreMade old cs new
