-- What a walk over the changes between two tables still gives, by rowid or by key (own).
use Rattle.std.specs.Prelude.{◌≡◌, List, [], ◌∷◌, Option, Some, None}
use Rattle.sqval.specs.Database.{Database}
use Rattle.sqrows.specs.declared.rows.Rows.{Rows}
use Rattle.sqrows.specs.RowCursor.{IsAtRow}
use Rattle.sqdiff.specs.Changes.{Change, inserted, deleted, changed}
use Rattle.sqdiff.specs.declared.diff.Kind.{Kind}
use Rattle.sqdiff.specs.declared.diff.Kind.TheVariants.{Inserted, Deleted, Changed}
use Rattle.sqdiff.specs.declared.error.DiffError.{DiffError}
use Rattle.sqdiff.specs.DiffCursor as rowids
use Rattle.sqkeydiff.specs.KeyCursor as keys
use Rattle.cli_show_diff.specs.declared.table_diff.TableDiff.{TableDiff}
use Rattle.cli_show_diff.specs.declared.table_diff.TableDiff.TheVariants.{Rowids, Keys}

-- the cursors over the rows of both tables
abbrev pub old_rows : TableDiff → Rows
old_rows (Rowids diff) = diff.old_side.rows
old_rows (Keys diff) = diff.old_side.rows

abbrev pub new_rows : TableDiff → Rows
new_rows (Rowids diff) = diff.new_side.rows
new_rows (Keys diff) = diff.new_side.rows

abbrev pub AreStanding : Database → Database → TableDiff → Type 0
AreStanding d e (Rowids diff) = rowids.AreStanding d e diff
AreStanding d e (Keys diff) = keys.AreStanding d e diff

-- These changes are left.
abbrev pub ChangesLeft : Database → Database → TableDiff → List Change → Type 0
ChangesLeft d e (Rowids diff) cs = rowids.ChangesLeft d e diff cs
ChangesLeft d e (Keys diff) cs = keys.KeyChangesLeft d e diff cs

-- The walk came to this change last.
abbrev pub IsAtChange : TableDiff → Kind → Change → Type 0
IsAtChange diff Inserted (inserted r) = IsAtRow (new_rows diff) r
IsAtChange diff Deleted (deleted r) = IsAtRow (old_rows diff) r
IsAtChange diff Changed (changed r s) = IsAtRow (old_rows diff) r × IsAtRow (new_rows diff) s
IsAtChange diff _ _ = ⊥

-- Where these were left it came to the first one, and the others are left now; or there was none.
abbrev pub ChangesMove : Database → Database → (found : Option Kind) → List Change → TableDiff → Type 0
ChangesMove d e None cs diff = cs ≡ []
ChangesMove d e (Some kind) cs diff = (c : Change) × (more : List Change) × (cs ≡ c ∷ more) × IsAtChange diff kind c × ChangesLeft d e diff more

-- Why the next change isn't found.
abbrev pub DiffRefused : Database → Database → TableDiff → DiffError → Type 0
DiffRefused d e (Rowids diff) error = rowids.DiffRefused d e diff error
DiffRefused d e (Keys diff) error = keys.KeyDiffRefused d e diff error
