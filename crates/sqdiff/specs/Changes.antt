-- What changed between the rows that a table had and those that it has (own).
use Rattle.std.specs.Prelude.{◌≡◌, ◌≢◌, ◌↔◌, ◌<ℤ◌, ℕ, ℤ, List, [], ◌∷◌, map, Option, Some, None}
use Rattle.sqval.specs.Database.{Database}
use Rattle.sqpage.specs.Lists.{In}
use Rattle.sqrows.specs.Rows.{Row, HasRows}

-- A row that came, one that went, and one that has other values now.
pub data Change : Type 0 where
  inserted : Row → Change
  deleted : Row → Change
  changed : (old new : Row) → Change

-- the rowid of the row that changed
abbrev pub rowid_of : Change → Option ℤ
rowid_of (inserted r) = r.rowid
rowid_of (deleted r) = r.rowid
rowid_of (changed r s) = r.rowid

-- It is a rowid, and above the one before it, if there is one.
abbrev pub IsAbove : (before id : Option ℤ) → Type 0
IsAbove before None = ⊥
IsAbove None (Some id) = Unit {0}
IsAbove (Some low) (Some id) = low <ℤ id

-- Each of these is a rowid, above the one before it.
abbrev pub Rise : (before : Option ℤ) → List (Option ℤ) → Type 0
Rise before [] = Unit {0}
Rise before (id ∷ ids) = IsAbove before id × Rise id ids

abbrev pub rowids : List Row → List (Option ℤ)
rowids rows = map (λ (r : Row). r.rowid) rows

-- none of these rows has this rowid
abbrev pub IsFree : Option ℤ → List Row → Type 0
IsFree id rows = (r : Row) → In r rows → r.rowid ≢ id

-- What came is a new row whose rowid no old one has; what went is an old row whose rowid no new one has; what changed is an
-- old row, where the new one of its rowid has other values.
abbrev pub IsChangeOf : (old new : List Row) → Change → Type 0
IsChangeOf old new (inserted r) = In r new × IsFree r.rowid old
IsChangeOf old new (deleted r) = In r old × IsFree r.rowid new
IsChangeOf old new (changed r s) = In r old × In s new × (r.rowid ≡ s.rowid) × (r.values ≢ s.values)

-- These are all the changes, each once, by rowid.
abbrev pub AreChanges : (old new : List Row) → List Change → Type 0
AreChanges old new cs = Rise None (map rowid_of cs) × ((c : Change) → In c cs ↔ IsChangeOf old new c)

-- The tables of these roots in two databases have rows whose rowids rise, and these are the changes.
abbrev pub HasChanges : Database → (old_root : ℕ) → Database → (new_root : ℕ) → List Change → Type 0
HasChanges d old_root e new_root cs =
    (old new : List Row) × HasRows d old_root old × HasRows e new_root new × Rise None (rowids old) × Rise None (rowids new)
    × AreChanges old new cs
