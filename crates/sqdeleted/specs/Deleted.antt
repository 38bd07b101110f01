-- Cells of leaves of tables that were deleted, as far as their bytes still stand in a page (fileformat2, 1.6; which of them are
-- told is own). All places count from the page's first byte, and `used` is its usable part.
use Rattle.std.specs.Prelude.{◌≡◌, ◌≢◌, ◌⊎◌, ℕ, ◌+◌, ◌<◌, ◌≤◌, List, [], ◌∷◌, ◌++◌, length, take, drop, sum_by}
use Rattle.std.specs.Int.{cast_signed, w64}
use Rattle.sqval.specs.Bytes.{part}
use Rattle.sqval.specs.Serial.{body_size}
use Rattle.sqval.specs.Varint.{Begins}
use Rattle.sqval.specs.Datum.{Datum}
use Rattle.sqval.specs.Record.{HasHeader, Lead, Hold, Reads}
use Rattle.sqval.specs.Shortest.{varint_size}
use Rattle.sqpage.specs.declared.cell.Parts.{Parts}
use Rattle.sqpage.specs.declared.kind.Kind.{Kind}
use Rattle.sqpage.specs.declared.kind.Kind.TheVariants.{TableLeaf}
use Rattle.sqpage.specs.Header.{half}
use Rattle.sqpage.specs.Page.{HasParts, head_at, content_start_in, pointers_end_in}
use Rattle.sqpage.specs.Layout.{Span, IsFreeblock}
use Rattle.sqdeleted.specs.declared.cell.DeletedCell.{DeletedCell}

-- A record of so many bytes begins with these: its header stands in them, names one column at least, and takes so many bytes
-- together with the bodies that it names.
pub record BeginsRecord (total : ℕ) (bytes : List ℕ) : Type 0 where
  pub types : List ℕ
  pub header : ℕ
  pub size : ℕ
  pub has : HasHeader header size bytes
  pub leads : Lead types (drop size (take header bytes)) []
  pub some : types ≢ []
  pub fills : header + sum_by body_size types ≡ total

-- Each type in its header stands in the fewest bytes, as SQLite writes it.
abbrev pub IsShort : {total : ℕ} {bytes : List ℕ} → BeginsRecord total bytes → Type 0
IsShort begins = begins.header ≡ begins.size + sum_by varint_size begins.types

-- These values stand whole in bytes that begin a record: those of its first columns, up to one whose body ends behind the bytes.
pub record StandWhole (bytes : List ℕ) (values : List Datum) : Type 0 where
  pub types : List ℕ
  pub rest : List ℕ
  pub bodies : List ℕ
  pub reads : Reads types rest bodies bytes
  pub holds : Hold types values (take (sum_by body_size types) bodies)
  pub last : (serial size : ℕ) → Begins serial size rest → length bodies < sum_by body_size types + body_size serial

-- A cell of a leaf of a table, of these parts, begins at this place and lies whole from one place to another; what of its payload
-- lies in it begins a record, whose types stand as SQLite writes them.
pub record StandsBetween (used : List ℕ) (from to at : ℕ) (c : Parts) : Type 0 where
  pub after : from ≤ at
  pub before : c.end ≤ to
  pub has : HasParts TableLeaf used at c
  pub begins : BeginsRecord c.payload (part used c.body c.local)
  pub short : IsShort begins

-- The first freeblock is at `at`, and these lead on: each is sound, lies behind the end of the one before, the first at `least` or
-- later, and names the next one in its first two bytes.
abbrev pub AreLinked : List ℕ → (least at : ℕ) → List Span → Type 0
AreLinked used least at [] = Unit {0}
AreLinked used least at (block ∷ blocks) =
    (block.start ≡ at) × IsFreeblock used least block × AreLinked used (block.start + block.size) (half used block.start) blocks

-- Freeblocks from the one at `at` on, as far as they are sound, lead to this one.
abbrev pub IsLinked : List ℕ → (least at : ℕ) → Span → Type 0
IsLinked used least at block = (before : List Span) × AreLinked used least at (before ++ block ∷ [])

-- No cell of the page is to stand here: between the pointers to its cells and the start of its content, and in each of its
-- freeblocks behind the four bytes that it begins with.
abbrev pub IsGap : Kind → List ℕ → (number from to : ℕ) → Type 0
IsGap kind used number from to =
    ((from ≡ pointers_end_in kind used number) × (to ≡ content_start_in used number))
    ⊎ ((block : Span) × IsLinked used (content_start_in used number) (half used (head_at number + 1)) block
    × (from ≡ block.start + 4) × (to ≡ block.start + block.size))

-- In such a gap of the page a deleted cell of these parts begins at this place.
abbrev pub IsDeleted : Kind → List ℕ → (number at : ℕ) → Parts → Type 0
IsDeleted kind used number at c = (from to : ℕ) × IsGap kind used number from to × StandsBetween used from to at c

-- This is the cell of these parts at this place.
pub record IsCellOf (used : List ℕ) (number place : ℕ) (c : Parts) (cell : DeletedCell) : Type 0 where
  pub page : cell.page ≡ number
  pub at : cell.at ≡ place
  pub size : cell.at + cell.size ≡ c.end
  pub rowid : cell.rowid ≡ cast_signed w64 c.rowid
  pub payload : cell.payload ≡ c.payload
  pub local : cell.local.now ≡ part used c.body c.local
  pub overflow : cell.overflow ≡ c.overflow
