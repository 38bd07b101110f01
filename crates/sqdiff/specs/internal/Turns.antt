-- One turn of the walk over both tables (own). No public clause cites these words.
use Rattle.std.specs.Prelude.{◌≡◌, ◌≢◌, ◌↔◌, ◌<ℤ◌, ℤ, List, Some, None, IsTrue, Bool}
use Rattle.sqval.specs.Database.{Database}
use Rattle.sqval.specs.Record.{Refused}
use Rattle.sqpage.specs.Lists.{In}
use Rattle.sqrows.specs.declared.rows.Rows.{Rows}
use Rattle.sqrows.specs.Rows.{Row}
use Rattle.sqrows.specs.RowCursor.{IsAtRow}
use Rattle.sqdiff.specs.declared.side.Place.{Place}
use Rattle.sqdiff.specs.declared.side.Place.TheVariants.{Between, At}
use Rattle.sqdiff.specs.declared.side.Side.{Side}
use Rattle.sqdiff.specs.declared.error.SideError.TheVariants.{Record}
use Rattle.sqdiff.specs.declared.error.DiffError.{DiffError}
use Rattle.sqdiff.specs.declared.error.DiffError.TheVariants.{Old, New}
use Rattle.sqdiff.specs.declared.turn.Next.{Next}
use Rattle.sqdiff.specs.declared.turn.Next.TheVariants as nexts
use Rattle.sqdiff.specs.declared.turn.Turn.{Turn}
use Rattle.sqdiff.specs.declared.turn.Turn.TheVariants.{Same, Told, Ended}
use Rattle.sqdiff.specs.declared.diff.Diff.{Diff}
use Rattle.sqdiff.specs.Changes.{Change, rowids, Rise}
use Rattle.sqdiff.specs.DiffCursor.{SideLeft, Stands, AreStanding, ChangesLeft, ChangesMove}

-- no row of this side isn't passed
abbrev pub IsSeen : Place → Type 0
IsSeen place = place ≢ Between

-- The same rows of this side are left, and whether there is one is known.
pub record Looks (d : Database) (old new : Side) : Type 0 where
  pub stands : Stands d new
  pub left : (rows : List Row) → SideLeft d old rows ↔ SideLeft d new rows

-- The rows that are left now were left before, behind those that were passed; they rise if all of these did.
abbrev pub Passes : Database → (old new : Side) → Type 0
Passes d old new =
    (rows : List Row) → SideLeft d old rows → (rest : List Row) × SideLeft d new rest × ((r : Row) → In r rest → In r rows)
    × (Rise old.last (rowids rows) → Rise new.last (rowids rest))

-- A row of the side that comes next in the order of rowids, or rows of both that have the same.
abbrev pub IsNext : (old new : Place) → Next → Type 0
IsNext old new nexts.Neither = ((id : ℤ) → old ≢ At id) × ((id : ℤ) → new ≢ At id)
IsNext old new (nexts.Old id) = (old ≡ At id) × ((other : ℤ) → new ≡ At other → id <ℤ other)
IsNext old new (nexts.New id) = (new ≡ At id) × ((other : ℤ) → old ≡ At other → id <ℤ other)
IsNext old new (nexts.Both id) = (old ≡ At id) × (new ≡ At id)

-- the cursor is at this row and no other
abbrev pub IsOnlyAt : Rows → Row → Type 0
IsOnlyAt cursor row = (r : Row) → IsAtRow cursor r ↔ (r ≡ row)

-- The values of the rows that both cursors are at are the same, or aren't.
abbrev pub AreAlike : Diff → Bool → Type 0
AreAlike diff alike = (r s : Row) × IsOnlyAt diff.old_side.rows r × IsOnlyAt diff.new_side.rows s × (IsTrue alike ↔ (r.values ≡ s.values))

-- The payload of a row that a cursor is at is no record.
abbrev pub IsNoRecord : Diff → DiffError → Type 0
IsNoRecord diff (Old (Record error)) = Refused error diff.old_side.rows.payload.items
IsNoRecord diff (New (Record error)) = Refused error diff.new_side.rows.payload.items
IsNoRecord diff _ = ⊥

-- What a turn told of the changes that were left: none of them, the first one, or that there is none.
abbrev pub TurnMoves : Database → Database → Turn → List Change → Diff → Type 0
TurnMoves d e Same cs diff = ChangesLeft d e diff cs
TurnMoves d e (Told kind) cs diff = ChangesMove d e (Some kind) cs diff
TurnMoves d e Ended cs diff = ChangesMove d e None cs diff

pub record Turns (d e : Database) (old new : Diff) (turn : Turn) : Type 0 where
  pub standing : AreStanding d e new
  pub moves : (cs : List Change) → ChangesLeft d e old cs ↔ TurnMoves d e turn cs new
  pub old_passes : Passes d old.old_side new.old_side
  pub new_passes : Passes e old.new_side new.new_side
