-- One turn of the walk over both tables (own). No public clause cites these words.
use Rattle.std.specs.Prelude.{◌≡◌, ◌≢◌, ◌↔◌, ℕ, List, Option, Some, None, IsTrue, Bool}
use Rattle.std.specs.declared.cmp.Ordering.TheVariants.{Less, Equal}
use Rattle.sqval.specs.Database.{Database}
use Rattle.sqval.specs.Record.{Refused}
use Rattle.sqpage.specs.Lists.{In}
use Rattle.sqpage.specs.declared.fault.Fault.TheVariants as faults
use Rattle.sqrows.specs.declared.rows.Rows.{Rows}
use Rattle.sqrows.specs.declared.rows.RowsError.TheVariants.{Tree}
use Rattle.sqrows.specs.Rows.{Row}
use Rattle.sqrows.specs.RowCursor.{IsAtRow}
use Rattle.sqlite_value.specs.declared.value.Value.{Value}
use Rattle.sqlite_value.specs.declared.keys.Order.{Order}
use Rattle.sqlite_value.specs.Keys.{entry_cmp}
use Rattle.sqdiff.specs.declared.error.SideError.{SideError}
use Rattle.sqdiff.specs.declared.error.SideError.TheVariants.{Rows as Unread, Record}
use Rattle.sqdiff.specs.declared.error.DiffError.{DiffError}
use Rattle.sqdiff.specs.declared.error.DiffError.TheVariants.{Old, New}
use Rattle.sqdiff.specs.Changes.{Change}
use Rattle.sqkeydiff.specs.declared.key.KeyOrder.{KeyOrder}
use Rattle.sqkeydiff.specs.declared.side.Place.{Place}
use Rattle.sqkeydiff.specs.declared.side.Place.TheVariants.{Between, At}
use Rattle.sqkeydiff.specs.declared.side.Side.{Side}
use Rattle.sqkeydiff.specs.declared.turn.Next.{Next}
use Rattle.sqkeydiff.specs.declared.turn.Next.TheVariants as nexts
use Rattle.sqkeydiff.specs.declared.turn.Turn.{Turn}
use Rattle.sqkeydiff.specs.declared.turn.Turn.TheVariants.{Same, Told, Ended}
use Rattle.sqkeydiff.specs.declared.diff.KeyDiff.{KeyDiff}
use Rattle.sqkeydiff.specs.KeyChanges.{key_of, keys_of, Ascend}
use Rattle.sqkeydiff.specs.KeyCursor.{SideLeft, Stands, AreStanding, KeyChangesLeft, KeyChangesMove}

-- The row that a cursor came to last has this key.
abbrev pub HasKey : Rows → (width : ℕ) → Option (List Value) → Type 0
HasKey cursor width key = (r : Row) → IsAtRow cursor r → key_of width r ≡ key

-- Its payload is no record, or memory ran out.
abbrev pub IsNoKey : Rows → SideError → Type 0
IsNoKey cursor (Record error) = Refused error cursor.payload.items
IsNoKey cursor (Unread (Tree e)) = e.fault ≡ faults.NoMemory
IsNoKey cursor _ = ⊥

-- no row of this side isn't passed
abbrev pub IsSeen : Place → Type 0
IsSeen place = place ≢ Between

-- The same rows of this side are left, and whether there is one is known.
pub record Looks (d : Database) (by : KeyOrder) (old new : Side) : Type 0 where
  pub stands : Stands d by new
  pub left : (rows : List Row) → SideLeft d old rows ↔ SideLeft d new rows

-- The rows that are left now were left before, behind those that were passed; their keys ascend if those of all these did.
abbrev pub Passes : Database → KeyOrder → (old new : Side) → Type 0
Passes d by old new =
    (rows : List Row) → SideLeft d old rows → (rest : List Row) × SideLeft d new rest × ((r : Row) → In r rest → In r rows)
    × (Ascend by.order old.last (keys_of by.width rows) → Ascend by.order new.last (keys_of by.width rest))

-- The places are at rows of equal keys.
abbrev pub AreMet : Order → (old new : Place) → Type 0
AreMet order old new = (key other : List Value) × (old ≡ At key) × (new ≡ At other) × (entry_cmp order key other ≡ Equal)

-- One is at a row whose key comes before that of the other's.
abbrev pub IsBelow : Order → (one other : Place) → Type 0
IsBelow order one other = (key : List Value) × (one ≡ At key) × ((behind : List Value) → other ≡ At behind → entry_cmp order key behind ≡ Less)

-- A row of the side that comes next in the order of keys, or rows of both of equal keys.
abbrev pub IsNext : Order → (old new : Place) → Next → Type 0
IsNext order old new nexts.Neither = ((key : List Value) → old ≢ At key) × ((key : List Value) → new ≢ At key)
IsNext order old new nexts.Old = IsBelow order old new
IsNext order old new nexts.New = IsBelow order new old
IsNext order old new nexts.Both = AreMet order old new

-- the cursor is at this row and no other
abbrev pub IsOnlyAt : Rows → Row → Type 0
IsOnlyAt cursor row = (r : Row) → IsAtRow cursor r ↔ (r ≡ row)

-- The values of the rows that both cursors are at are the same, or aren't.
abbrev pub AreAlike : KeyDiff → Bool → Type 0
AreAlike diff alike = (r s : Row) × IsOnlyAt diff.old_side.rows r × IsOnlyAt diff.new_side.rows s × (IsTrue alike ↔ (r.values ≡ s.values))

-- The payload of a row that a cursor is at is no record.
abbrev pub IsNoRecord : KeyDiff → DiffError → Type 0
IsNoRecord diff (Old (Record error)) = Refused error diff.old_side.rows.payload.items
IsNoRecord diff (New (Record error)) = Refused error diff.new_side.rows.payload.items
IsNoRecord diff _ = ⊥

-- What a turn told of the changes that were left: none of them, the first one, or that there is none.
abbrev pub TurnMoves : Database → Database → Turn → List Change → KeyDiff → Type 0
TurnMoves d e Same cs diff = KeyChangesLeft d e diff cs
TurnMoves d e (Told kind) cs diff = KeyChangesMove d e (Some kind) cs diff
TurnMoves d e Ended cs diff = KeyChangesMove d e None cs diff

pub record Turns (d e : Database) (old new : KeyDiff) (turn : Turn) : Type 0 where
  pub standing : AreStanding d e new
  pub same : new.key ≡ old.key
  pub moves : (cs : List Change) → KeyChangesLeft d e old cs ↔ TurnMoves d e turn cs new
  pub old_passes : Passes d old.key old.old_side new.old_side
  pub new_passes : Passes e old.key old.new_side new.new_side
