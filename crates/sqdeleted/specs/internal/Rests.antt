-- Serial types from a place on, and what a place is looked at for.
use Rattle.std.specs.Prelude.{◌≡◌, ◌≢◌, ℕ, ◌+◌, ◌<◌, ◌≤◌, Bool, List, [], drop, sum_by}
use Rattle.sqval.specs.Record.{Lead}
use Rattle.sqval.specs.Serial.{body_size, IsInternal}
use Rattle.sqval.specs.Shortest.{varint_size}
use Rattle.sqval.specs.Varint.{Begins}
use Rattle.sqpage.specs.Header.{half}
use Rattle.sqpage.specs.Layout.{Span, IsFreeblock}
use Rattle.sqdeleted.specs.Cut.{EndsHere, HeaderBegins, IsCut, IsFirstCut, IsCutCell}
use Rattle.sqdeleted.specs.declared.cut.CutCell.{CutCell}
use Rattle.sqdeleted.specs.declared.cut_cursor.CutCells.{CutCells}
use Rattle.sqdeleted.specs.declared.rest.Rest.{Rest}

-- A type begins here that stands in files, in the fewest bytes.
pub record IsTypeAt (bytes : List ℕ) (serial size : ℕ) : Type 0 where
  pub begins : Begins serial size bytes
  pub outer : ¬ IsInternal serial
  pub short : size ≡ varint_size serial

-- These types, one at least, lead from here, end between two places, and their bodies end where a cell may.
pub record AreTypesFrom (used : List ℕ) (whole : List Bool) (last to from least most : ℕ) (rest : Rest) : Type 0 where
  pub serials : List ℕ
  pub some : serials ≢ []
  pub begin : rest.types ≡ from
  pub leads : Lead serials (drop from used) (drop rest.bodies used)
  pub short : rest.bodies ≡ from + sum_by varint_size serials
  pub fills : rest.end ≡ rest.bodies + sum_by body_size serials
  pub low : least ≤ rest.bodies
  pub high : rest.bodies ≤ most
  pub before : rest.end ≤ to
  pub ends : EndsHere used whole last rest.end

-- They do, and none of them whose bodies end earlier.
abbrev pub AreFirstFrom : (used : List ℕ) → (whole : List Bool) → (last to from least most : ℕ) → Rest → Type 0
AreFirstFrom used whole last to from least most rest =
    AreTypesFrom used whole last to from least most rest
    × ((other : Rest) → AreTypesFrom used whole last to from least most other → rest.end ≤ other.end)

-- The header of a record that begins here has this size, in so many bytes, and its types are such.
abbrev pub IsRecordFrom : (used : List ℕ) → (whole : List Bool) → (last to header : ℕ) → Rest → Type 0
IsRecordFrom used whole last to header rest =
    (number : ℕ) × (size : ℕ) × Begins number size (drop header used)
    × AreTypesFrom used whole last to (header + size) (header + number) (header + number) rest

-- The same of one behind the end of a rowid, or at once.
abbrev pub IsRecordBehind : (used : List ℕ) → (whole : List Bool) → (last to start : ℕ) → Rest → Type 0
IsRecordBehind used whole last to start rest =
    (header : ℕ) × HeaderBegins used start header × IsRecordFrom used whole last to header rest

-- The cursor stays in its gap.
pub record StaysCut (old new : CutCells) : Type 0 where
  pub used : new.used.now ≡ old.used.now
  pub whole : new.whole.now ≡ old.whole.now
  pub number : new.number ≡ old.number
  pub to : new.to ≡ old.to
  pub next : new.next ≡ old.next
  pub least : new.least ≡ old.least

-- The rest of the gap has no such cell.
abbrev pub FindsNoCut : (old new : CutCells) → Type 0
FindsNoCut old new =
    StaysCut old new × ((at : ℕ) (rest : Rest) → ¬ IsCut old.used.now old.whole.now old.at old.to at rest)

-- This is the first one in the rest of the gap, and the cursor is at its end.
abbrev pub FindsCut : (old new : CutCells) → CutCell → Type 0
FindsCut old new cell =
    StaysCut old new × ((at : ℕ) × (rest : Rest) × (new.at ≡ rest.end) × IsFirstCut old.used.now old.whole.now old.at old.to at rest
    × IsCutCell old.used.now old.number at rest cell)

-- The cursor comes to the next freeblock.
pub record OpensCut (old new : CutCells) : Type 0 where
  pub used : new.used.now ≡ old.used.now
  pub whole : new.whole.now ≡ old.whole.now
  pub number : new.number ≡ old.number
  pub block : Span
  pub start : block.start ≡ old.next
  pub is : IsFreeblock old.used.now old.least block
  pub at : new.at ≡ block.start
  pub to : new.to ≡ block.start + block.size
  pub least : new.least ≡ block.start + block.size
  pub next : new.next ≡ half old.used.now block.start

-- There is no next freeblock that is sound.
abbrev pub IsAtLast : CutCells → Type 0
IsAtLast s = (block : Span) → block.start ≡ s.next → ¬ IsFreeblock s.used.now s.least block
