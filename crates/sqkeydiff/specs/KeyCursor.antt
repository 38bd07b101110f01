-- What a cursor over changes by key still gives (own).
use Rattle.std.specs.Prelude.{◌≡◌, ◌≢◌, ◌<◌, ℕ, true, List, [], ◌∷◌, length, Option, Some, None, unwrap_or}
use Rattle.sqval.specs.Database.{Database}
use Rattle.sqval.specs.Record.{IsRecord, most_bytes}
use Rattle.sqval.specs.declared.error.RecordError.TheVariants as records
use Rattle.sqpage.specs.Lists.{In}
use Rattle.sqpage.specs.declared.fault.Fault.TheVariants as faults
use Rattle.sqrows.specs.declared.payload.PayloadError.TheVariants.{TooLong, Chain}
use Rattle.sqrows.specs.declared.rows.Rows.{Rows}
use Rattle.sqrows.specs.declared.rows.RowsError.TheVariants.{Tree, Payload}
use Rattle.sqrows.specs.Trees.{Entry}
use Rattle.sqrows.specs.Cursor.{IsOver}
use Rattle.sqrows.specs.Rows.{Row, IsRowIn}
use Rattle.sqrows.specs.RowCursor.{RowsLeft, RowsMove, IsAtRow}
use Rattle.sqlite_value.specs.declared.value.Value.{Value}
use Rattle.sqdiff.specs.declared.error.SideError.{SideError}
use Rattle.sqdiff.specs.declared.error.SideError.TheVariants.{Rows as Unread, Record, Unordered}
use Rattle.sqdiff.specs.declared.error.DiffError.{DiffError}
use Rattle.sqdiff.specs.declared.error.DiffError.TheVariants.{Old, New}
use Rattle.sqdiff.specs.declared.diff.Kind.{Kind}
use Rattle.sqdiff.specs.declared.diff.Kind.TheVariants.{Inserted, Deleted, Changed}
use Rattle.sqdiff.specs.Changes.{Change, inserted, deleted, changed}
use Rattle.sqkeydiff.specs.declared.key.KeyOrder.{KeyOrder}
use Rattle.sqkeydiff.specs.declared.side.Place.{Place}
use Rattle.sqkeydiff.specs.declared.side.Place.TheVariants.{Between, At, End}
use Rattle.sqkeydiff.specs.declared.side.Side.{Side}
use Rattle.sqkeydiff.specs.declared.diff.KeyDiff.{KeyDiff}
use Rattle.sqkeydiff.specs.KeyChanges.{key_of, keys_of, IsAbove, Ascend, AreKeyChanges}

-- What a cursor over rows still gives, where the one that it came to last isn't passed, or is.
abbrev pub LeftFrom : Database → Place → Rows → List Row → Type 0
LeftFrom d Between cursor rows = RowsLeft d cursor rows
LeftFrom d (At key) cursor rows = RowsMove d true rows cursor
LeftFrom d End cursor rows = rows ≡ []

-- These rows of one of both tables aren't passed.
abbrev pub SideLeft : Database → Side → List Row → Type 0
SideLeft d side rows = LeftFrom d side.place side.rows rows

-- The cursor over these rows is one of this database. The row that it is at has the key that is kept, which comes behind the last
-- one that was passed.
pub record Stands (d : Database) (by : KeyOrder) (side : Side) : Type 0 where
  pub over : IsOver d side.rows.cells
  pub placed : (key : List Value) → side.place ≡ At key → ((r : Row) → IsAtRow side.rows r → key_of by.width r ≡ Some key) × IsAbove by.order side.last (Some key)

abbrev pub AreStanding : Database → Database → KeyDiff → Type 0
AreStanding d e diff = Stands d diff.key diff.old_side × Stands e diff.key diff.new_side

-- These changes are left: those between the rows that aren't passed, whose keys ascend from the last ones that were.
abbrev pub KeyChangesLeft : Database → Database → KeyDiff → List Change → Type 0
KeyChangesLeft d e diff cs =
    (old new : List Row) × SideLeft d diff.old_side old × SideLeft e diff.new_side new
    × Ascend diff.key.order diff.old_side.last (keys_of diff.key.width old) × Ascend diff.key.order diff.new_side.last (keys_of diff.key.width new)
    × AreKeyChanges diff.key old new cs

-- The cursor came to this change last: both of its rows are those that the cursors over rows are at.
abbrev pub IsAtKeyChange : KeyDiff → Kind → Change → Type 0
IsAtKeyChange diff Inserted (inserted r) = IsAtRow diff.new_side.rows r
IsAtKeyChange diff Deleted (deleted r) = IsAtRow diff.old_side.rows r
IsAtKeyChange diff Changed (changed r s) = IsAtRow diff.old_side.rows r × IsAtRow diff.new_side.rows s
IsAtKeyChange diff _ _ = ⊥

-- Where these were left the cursor came to the first one, and the others are left now; or there was none.
abbrev pub KeyChangesMove : Database → Database → (found : Option Kind) → List Change → KeyDiff → Type 0
KeyChangesMove d e None cs diff = cs ≡ []
KeyChangesMove d e (Some kind) cs diff =
    (c : Change) × (more : List Change) × (cs ≡ c ∷ more) × IsAtKeyChange diff kind c × KeyChangesLeft d e diff more

-- What is wrong with rows that aren't read to their end: one has a payload above the limit, or is a record of more bytes than
-- one may have; their keys don't ascend from the last one; memory ran out. For any other refusal there are no such rows.
abbrev pub AreRefused : Database → (limit : ℕ) → KeyOrder → (last : Option (List Value)) → SideError → List Row → Type 0
AreRefused d limit by last (Unread (Payload TooLong)) rows =
    (r : Row) × (e : Entry) × In r rows × IsRowIn d e r × (limit < unwrap_or e.payload 0)
AreRefused d limit by last (Unread (Payload (Chain e))) rows = ¬ (e.fault ≢ faults.NoMemory)
AreRefused d limit by last (Unread (Tree e)) rows = ¬ (e.fault ≢ faults.NoMemory)
AreRefused d limit by last (Record records.TooLarge) rows =
    (r : Row) × (bytes : List ℕ) × In r rows × IsRecord r.values bytes × (most_bytes < length bytes)
AreRefused d limit by last (Record _) rows = ⊥
AreRefused d limit by last Unordered rows = ¬ Ascend by.order last (keys_of by.width rows)

abbrev pub SideRefused : Database → KeyOrder → Side → SideError → Type 0
SideRefused d by side error = (rows : List Row) → SideLeft d side rows → AreRefused d side.rows.limit by side.last error rows

-- Why the next change isn't found: the rows of the old table, or of the new one, aren't read.
abbrev pub KeyDiffRefused : Database → Database → KeyDiff → DiffError → Type 0
KeyDiffRefused d e diff (Old error) = SideRefused d diff.key diff.old_side error
KeyDiffRefused d e diff (New error) = SideRefused e diff.key diff.new_side error
