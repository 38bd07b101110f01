-- Words of the cursor over the rows of a table (own). No public contract cites them.
use Rattle.std.specs.Prelude.{◌≡◌, ℕ, true, false, List, [], ◌∷◌, ◌++◌, slice_get, Option, Some, None, ℤ}
use Rattle.sqval.specs.Database.{Database}
use Rattle.sqval.specs.Record.{most_bytes}
use Rattle.sqrows.specs.Cursor.{IsOver}
use Rattle.sqindex.specs.declared.rows.Ahead.{Ahead}
use Rattle.sqindex.specs.declared.rows.Ahead.TheVariants.{Unread, Row, End}
use Rattle.sqindex.specs.declared.rows.Rows.{Rows}
use Rattle.sqindex.specs.declared.walk.Found.{Found}
use Rattle.sqindex.specs.declared.walk.Walk.{Walk}
use Rattle.sqindex.specs.Stored.{Stored}
use Rattle.sqindex.specs.Keys.{rowid_of}
use Rattle.sqindex.specs.Rules.{HasKeyedRows}
use Rattle.sqindex.specs.internal.Joining.{AreSeen}
use Rattle.sqindex.specs.internal.Reading.{stored_of}
use Rattle.sqindex.specs.internal.Spans.{up_to, passed}

-- These rows were given: they are all that were read, or all but the last one, or all of the table.
abbrev pub AreGiven : Database → (table : ℕ) → Ahead → Walk → (last : Option ℤ) → List Stored → Type 0
AreGiven d table Unread walk last given = AreSeen d table walk.cells last given
AreGiven d table (Row found) walk last given = AreSeen d table walk.cells last (given ++ stored_of found walk.payload.items ∷ [])
AreGiven d table End walk last given = HasKeyedRows d table given

-- The cursor has given these rows of the table.
pub record IsCursor (d : Database) (table : ℕ) (rows : Rows) (given : List Stored) : Type 0 where
  pub over : IsOver d rows.walk.cells
  pub limited : rows.walk.limit ≡ most_bytes
  pub are : AreGiven d table rows.ahead rows.walk rows.last given

-- It gave one more, or the table has no other.
abbrev pub Gives : Database → (table : ℕ) → (new : Rows) → (given : List Stored) → Option Found → Type 0
Gives d table new given None = IsCursor d table new given × HasKeyedRows d table given
Gives d table new given (Some found) = IsCursor d table new (given ++ stored_of found new.walk.payload.items ∷ []) × (new.ahead ≡ Unread)

-- All other rows of the table are behind this rowid.
pub record AreUpTo (d : Database) (table : ℕ) (last : Option ℤ) (given : List Stored) : Type 0 where
  pub whole : last ≡ None → HasKeyedRows d table given
  pub others : (all : List Stored) → HasKeyedRows d table all
      → (more : List Stored) × (all ≡ given ++ more) × ((i : ℕ) (row : Stored) → slice_get more i ≡ Some row → up_to last (rowid_of row) ≡ false)

-- It gave one more up to this rowid, or all others are behind it.
abbrev pub GivesTo : Database → (table : ℕ) → (last : Option ℤ) → (new : Rows) → (given : List Stored) → Option Found → Type 0
GivesTo d table last new given None = IsCursor d table new given × AreUpTo d table last given
GivesTo d table last new given (Some found) =
    Gives d table new given (Some found) × (up_to last (rowid_of (stored_of found new.walk.payload.items)) ≡ true)

-- The cursor has given rows of the table up to this rowid.
abbrev pub IsReadTo : Database → (table : ℕ) → (above : Option ℤ) → Rows → Type 0
IsReadTo d table above rows = (given : List Stored) × IsCursor d table rows given × ((i : ℕ) (row : Stored) → slice_get given i ≡ Some row → passed above (rowid_of row) ≡ true)

-- The row that comes next was left for later.
abbrev pub LooksAt : Option Found → Ahead → Type 0
LooksAt None ahead = Unit {0}
LooksAt (Some found) ahead = ahead ≡ Row found
