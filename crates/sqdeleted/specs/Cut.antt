-- Cells of leaves of tables whose first four bytes are gone: where SQLite frees a cell it writes over them the place of the next
-- freeblock and the size of this one (fileformat2, 1.6; which of them are told is own). All places count from the page's first
-- byte, `used` is its usable part, and `whole` says at which places of it deleted cells begin that stand whole.
use Rattle.std.specs.Prelude.{◌≡◌, ◌≢◌, ◌↔◌, ◌⊎◌, ◌++◌, ◌∷◌, ℕ, ◌+◌, ◌-◌, ◌<◌, ◌≤◌, Bool, false, IsTrue, List, [], drop, get_or, length, sum_by}
use Rattle.sqval.specs.Bytes.{part}
use Rattle.sqval.specs.Datum.{Datum}
use Rattle.sqval.specs.Record.{Lead, Hold}
use Rattle.sqval.specs.Serial.{body_size}
use Rattle.sqval.specs.Shortest.{varint_size}
use Rattle.sqval.specs.Varint.{Begins}
use Rattle.sqpage.specs.declared.kind.Kind.{Kind}
use Rattle.sqpage.specs.Header.{half}
use Rattle.sqpage.specs.Page.{head_at, content_start_in, pointers_end_in}
use Rattle.sqpage.specs.Layout.{Span, IsFreeblock}
use Rattle.sqpage.specs.declared.cell.Parts.{Parts}
use Rattle.sqdeleted.specs.DeletedCursor.{IsLeft}
use Rattle.sqdeleted.specs.declared.cursor.DeletedCells.{DeletedCells}
use Rattle.sqdeleted.specs.declared.whole.WholeCells.{WholeCells}
use Rattle.sqdeleted.specs.declared.cut.CutCell.{CutCell}
use Rattle.sqdeleted.specs.declared.rest.Rest.{Rest}

-- A freeblock is or was at this place that ended at `last`: the bytes are those of one that names none behind it, or one behind
-- its end.
pub record WasFreed (used : List ℕ) (at last : ℕ) : Type 0 where
  pub size : ℕ
  pub is : IsFreeblock used 0 (record { start = at; size = size })
  pub ends : last ≡ at + size
  pub names : (half used at ≡ 0) ⊎ (last < half used at)

-- A deleted cell stands whole at this place.
abbrev pub IsWhole : List Bool → (at : ℕ) → Type 0
IsWhole whole at = IsTrue (get_or whole at false)

-- A freeblock that ends at `last` ended at `end` once: there now, or before a cell behind it was joined to it, which stands whole.
abbrev pub EndedAt : List Bool → (last end : ℕ) → Type 0
EndedAt whole last end = (end ≡ last) ⊎ ((end < last) × IsWhole whole end)

-- A cell that a freeblock which ends at `last` took the front of may end here: where the freeblock ended when it was the cell
-- alone, or where the one began that it was joined with.
abbrev pub EndsHere : List ℕ → List Bool → (last end : ℕ) → Type 0
EndsHere used whole last end = EndedAt whole last end ⊎ ((inner : ℕ) × WasFreed used end inner × EndedAt whole last inner)

-- The header of its record begins here, where all that is left before it from `start` on is the end of the rowid, if any.
abbrev pub HeaderBegins : List ℕ → (start header : ℕ) → Type 0
HeaderBegins used start header =
    (header ≡ start) ⊎ ((number : ℕ) × (size : ℕ) × Begins number size (drop start used) × (header ≡ start + size))

-- The serial types stand between these places: from `start` on, where the header's size is gone too, which was one byte then; or
-- behind that size, which is theirs.
abbrev pub AreTypesOf : List ℕ → (start types bodies : ℕ) → Type 0
AreTypesOf used start types bodies =
    ((types ≡ start) × (bodies ≤ start + 126))
    ⊎ ((header : ℕ) × (number : ℕ) × (size : ℕ) × HeaderBegins used start header × Begins number size (drop header used)
    × (types ≡ header + size) × (bodies ≡ header + number))

-- What is left of a cell that began at this place, four bytes behind it: serial types, one at least, each in the fewest bytes, and
-- behind them their bodies, which end where the cell may have ended, at `to` or before.
pub record IsRest (used : List ℕ) (whole : List Bool) (to at : ℕ) (rest : Rest) : Type 0 where
  pub last : ℕ
  pub freed : WasFreed used at last
  pub serials : List ℕ
  pub some : serials ≢ []
  pub leads : Lead serials (drop rest.types used) (drop rest.bodies used)
  pub short : rest.bodies ≡ rest.types + sum_by varint_size serials
  pub fills : rest.end ≡ rest.bodies + sum_by body_size serials
  pub types : AreTypesOf used (at + 4) rest.types rest.bodies
  pub before : rest.end ≤ to
  pub ends : EndsHere used whole last rest.end

-- One of two such ways to read the same bytes: it leaves more before the types, or as much and ends earlier.
abbrev pub IsRather : (one other : Rest) → Type 0
IsRather one other = (other.types < one.types) ⊎ ((one.types ≡ other.types) × (one.end < other.end))

-- A deleted cell that stands whole has this byte.
abbrev pub IsHeld : WholeCells → (at : ℕ) → Type 0
IsHeld w at = IsTrue (get_or w.held.items at false)

-- A cell that lost its first four bytes began at this place, between these, and this is left of it: no whole one has that byte,
-- and the bytes can be read in no other way that is taken rather.
pub record IsCut (used : List ℕ) (w : WholeCells) (from to at : ℕ) (rest : Rest) : Type 0 where
  pub after : from ≤ at
  pub apart : ¬ IsHeld w at
  pub left : IsRest used w.begin.items to at rest
  pub first : (other : Rest) → IsRest used w.begin.items to at other → ¬ IsRather other rest

-- The first one there.
abbrev pub IsFirstCut : List ℕ → WholeCells → (from to at : ℕ) → Rest → Type 0
IsFirstCut used w from to at rest =
    IsCut used w from to at rest × ((place : ℕ) (other : Rest) → place < at → ¬ IsCut used w from to place other)

-- This is the cell at this place of which this is left.
pub record IsCutCell (used : List ℕ) (number place : ℕ) (rest : Rest) (cell : CutCell) : Type 0 where
  pub page : cell.page ≡ number
  pub at : cell.at ≡ place
  pub size : cell.at + cell.size ≡ rest.end
  pub types : cell.types.now ≡ part used rest.types (rest.bodies - rest.types)
  pub bodies : cell.bodies.now ≡ part used rest.bodies (rest.end - rest.bodies)

-- These are such cells between two places: the first one, then the first behind its end, and so on to the last.
abbrev pub AreCutBetween : List ℕ → WholeCells → (number from to : ℕ) → List CutCell → Type 0
AreCutBetween used w number from to [] = (at : ℕ) (rest : Rest) → ¬ IsCut used w from to at rest
AreCutBetween used w number from to (cell ∷ cells) =
    (at : ℕ) × (rest : Rest) × IsFirstCut used w from to at rest × IsCutCell used number at rest cell × AreCutBetween used w number rest.end to cells

-- These are all freeblocks from the one at `at` on, as far as they are sound.
abbrev pub AreAllLinked : List ℕ → (least at : ℕ) → List Span → Type 0
AreAllLinked used least at [] = (block : Span) → block.start ≡ at → ¬ IsFreeblock used least block
AreAllLinked used least at (block ∷ blocks) =
    (block.start ≡ at) × IsFreeblock used least block × AreAllLinked used (block.start + block.size) (half used block.start) blocks

-- These are such cells in these freeblocks, one behind the other.
abbrev pub AreCutIn : List ℕ → WholeCells → (number : ℕ) → List Span → List CutCell → Type 0
AreCutIn used w number [] cells = cells ≡ []
AreCutIn used w number (block ∷ blocks) cells =
    (own more : List CutCell) × AreCutBetween used w number block.start (block.start + block.size) own × AreCutIn used w number blocks more × (cells ≡ own ++ more)

-- These are such cells between two places, and behind them those in the freeblocks from the one at `at` on.
abbrev pub AreCutFrom : List ℕ → WholeCells → (number from to least at : ℕ) → List CutCell → Type 0
AreCutFrom used w number from to least at cells =
    (blocks : List Span) × (own more : List CutCell) × AreCutBetween used w number from to own × AreAllLinked used least at blocks
    × AreCutIn used w number blocks more × (cells ≡ own ++ more)

-- These are such cells of the page: between the pointers to its cells and the start of its content, and in its freeblocks.
abbrev pub AreCutOff : Kind → List ℕ → WholeCells → (number : ℕ) → List CutCell → Type 0
AreCutOff kind used w number cells =
    AreCutFrom used w number (pointers_end_in kind used number) (content_start_in used number) (content_start_in used number) (half used (head_at number + 1)) cells

-- At these places the deleted cells that a cursor has left stand whole, and they have these bytes.
pub record AreWholeOf (s : DeletedCells) (w : WholeCells) : Type 0 where
  pub begin : (at : ℕ) → IsWhole w.begin.items at ↔ ((c : Parts) × IsLeft s at c)
  pub held : (at : ℕ) → IsHeld w at ↔ ((place : ℕ) × (c : Parts) × IsLeft s place c × (place ≤ at) × (at < c.end))

-- These are serial types, and these their bodies.
abbrev pub AreFilled : (types bodies : List ℕ) → Type 0
AreFilled types bodies = (serials : List ℕ) × Lead serials types [] × (length bodies ≡ sum_by body_size serials)

-- These are the values of the bodies of these serial types.
abbrev pub AreHeld : (types bodies : List ℕ) → List Datum → Type 0
AreHeld types bodies values = (serials : List ℕ) × Lead serials types [] × Hold serials values bodies
