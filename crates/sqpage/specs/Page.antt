-- Pages of b-trees and their cells (fileformat2, 1.6). All places count from the page's first byte, and `used` is the
-- usable part of the page.
use Rattle.std.specs.Prelude.{◌≡◌, ◌≢◌, ℕ, ◌+◌, ◌-◌, ◌*◌, ◌/◌, ◌%◌, ◌<◌, ◌≤◌, ◌⊎◌, ◌==◌, nat_lt, nat_le, if◌then◌else◌, Bool, true, false, List, length, drop, slice_get, Option, Some, None}
use Rattle.std.specs.Int.{cast_signed, w64}
use Rattle.sqval.specs.Bytes.{part, word}
use Rattle.sqval.specs.PageSize.{IsPageSize}
use Rattle.sqval.specs.Varint.{Begins}
use Rattle.sqpage.specs.declared.cell.Cell.{Cell}
use Rattle.sqpage.specs.declared.cell.Parts.{Parts}
use Rattle.sqpage.specs.declared.fault.Fault.{Fault}
use Rattle.sqpage.specs.declared.fault.Fault.TheVariants as faults
use Rattle.sqpage.specs.declared.kind.Kind.{Kind}
use Rattle.sqpage.specs.declared.kind.Kind.TheVariants.{TableLeaf, TableInterior, IndexLeaf, IndexInterior}
use Rattle.sqpage.specs.Header.{byte, half}

-- the type byte of a page
abbrev pub code_of : Kind → ℕ
code_of TableLeaf = 13
code_of TableInterior = 5
code_of IndexLeaf = 10
code_of IndexInterior = 2

abbrev pub is_interior : Kind → Bool
is_interior TableLeaf = false
is_interior TableInterior = true
is_interior IndexLeaf = false
is_interior IndexInterior = true

-- its cells have rowids
abbrev pub is_table : Kind → Bool
is_table TableLeaf = true
is_table TableInterior = true
is_table IndexLeaf = false
is_table IndexInterior = false

abbrev pub has_payload : Kind → Bool
has_payload TableLeaf = true
has_payload TableInterior = false
has_payload IndexLeaf = true
has_payload IndexInterior = true

-- how much of a payload lies in its cell at most, where the page has u usable bytes: all of a payload up to this size
abbrev pub most_local : Kind → (u : ℕ) → ℕ
most_local TableLeaf u = u - 35
most_local TableInterior u = (u - 12) * 64 / 255 - 23
most_local IndexLeaf u = (u - 12) * 64 / 255 - 23
most_local IndexInterior u = (u - 12) * 64 / 255 - 23

-- and how much of a larger one at least
abbrev pub least_local : (u : ℕ) → ℕ
least_local u = (u - 12) * 32 / 255 - 23

-- what of a larger one fills the pages of its chain to the last
abbrev pub even_local : (u payload : ℕ) → ℕ
even_local u payload = least_local u + (payload - least_local u) % (u - 4)

-- how many bytes of a payload lie in its cell
unfoldable pub local_size : Kind → (u payload : ℕ) → ℕ
local_size kind u payload =
    if nat_le payload (most_local kind u) then payload else (if nat_le (even_local u payload) (most_local kind u) then even_local u payload else least_local u)

-- The header of a page: it begins behind the file's own header on page 1.
abbrev pub head_at : (number : ℕ) → ℕ
head_at number = if number == 1 then 100 else 0

abbrev pub cell_count_in : List ℕ → (number : ℕ) → ℕ
cell_count_in used number = half used (head_at number + 3)

-- where the cells begin, 0 standing for 65536
abbrev pub content_start_in : List ℕ → (number : ℕ) → ℕ
content_start_in used number = if half used (head_at number + 5) == 0 then 65536 else half used (head_at number + 5)

-- where the pointers to the cells begin, of two bytes each
abbrev pub pointers_at : Kind → (number : ℕ) → ℕ
pointers_at kind number = head_at number + (if is_interior kind then 12 else 8)

-- where cell i begins
abbrev pub pointer_in : Kind → List ℕ → (number i : ℕ) → ℕ
pointer_in kind used number i = half used (pointers_at kind number + 2 * i)

-- the end of the pointers
abbrev pub pointers_end_in : Kind → List ℕ → (number : ℕ) → ℕ
pointers_end_in kind used number = pointers_at kind number + 2 * cell_count_in used number

-- The number n stands in the four bytes from `from` to `to`. Where a cell has no such part it is 0, in no byte.
abbrev pub FourBytes : (present : Bool) → List ℕ → (from to n : ℕ) → Type 0
FourBytes true used from to n = (to ≡ from + 4) × (n ≡ word used from) × (to ≤ length used)
FourBytes false used from to n = (to ≡ from) × (n ≡ 0)

-- The varint of the number n stands there.
abbrev pub VarintAt : (present : Bool) → List ℕ → (from to n : ℕ) → Type 0
VarintAt true used from to n = (size : ℕ) × (to ≡ from + size) × Begins n size (drop from used)
VarintAt false used from to n = (to ≡ from) × (n ≡ 0)

-- A cell of these parts begins at this place and ends in the usable part: the left child, the size of the payload, the
-- rowid, the local payload, and the first overflow page where not all is local.
pub record HasParts (kind : Kind) (used : List ℕ) (at : ℕ) (c : Parts) : Type 0 where
  pub after_child : ℕ
  pub after_size : ℕ
  pub child : FourBytes (is_interior kind) used at after_child c.child
  pub payload : VarintAt (has_payload kind) used after_child after_size c.payload
  pub rowid : VarintAt (is_table kind) used after_size c.body c.rowid
  pub local : c.local ≡ local_size kind (length used) c.payload
  pub overflow : FourBytes (nat_lt c.local c.payload) used (c.body + c.local) c.end c.overflow
  pub within : c.end ≤ length used

-- A page of a b-tree: its usable part, its number and its kind.
pub record Page : Type 0 where
  pub used : List ℕ
  pub number : ℕ
  pub kind : Kind

abbrev pub cell_count : Page → ℕ
cell_count p = cell_count_in p.used p.number

abbrev pub pointer : Page → (i : ℕ) → ℕ
pointer p i = pointer_in p.kind p.used p.number i

-- Some cell begins at this place and ends in the usable part.
abbrev pub HasCell : Kind → List ℕ → (at : ℕ) → Type 0
HasCell kind used at = (c : Parts) × HasParts kind used at c

-- The page has this kind's type byte, the pointers and the start of the cells lie in the usable part, and each cell lies
-- between that start and the end of the usable part.
pub record IsBtreePage (p : Page) : Type 0 where
  pub kind : byte p.used (head_at p.number) ≡ code_of p.kind
  pub pointers : pointers_end_in p.kind p.used p.number ≤ length p.used
  pub start : content_start_in p.used p.number ≤ length p.used
  pub above : (i : ℕ) → i < cell_count p → content_start_in p.used p.number ≤ pointer p i
  pub cells : (i : ℕ) → i < cell_count p → HasCell p.kind p.used (pointer p i)

-- A page has this number and this size, and so many of its bytes are used.
pub record IsUsable (number size usable : ℕ) : Type 0 where
  pub above : 0 < number
  pub sized : IsPageSize size
  pub least : 480 ≤ usable
  pub most : usable ≤ size

-- The page of a b-tree that has this usable part and this number.
pub record IsPageOf (used : List ℕ) (number : ℕ) (page : Page) : Type 0 where
  pub btree : IsBtreePage page
  pub used_are : page.used ≡ used
  pub numbered : page.number ≡ number

-- Why this is no page of a b-tree: it has no such type byte, or the pointers or a cell leave their place.
abbrev pub PageRefused : Fault → List ℕ → (number : ℕ) → Type 0
PageRefused faults.Kind used number = (kind : Kind) → byte used (head_at number) ≢ code_of kind
PageRefused faults.CellOutside used number =
    (kind : Kind) × (byte used (head_at number) ≡ code_of kind)
    × ((length used < pointers_end_in kind used number) ⊎ (length used < content_start_in used number)
    ⊎ ((i : ℕ) × (i < cell_count_in used number) × ((pointer_in kind used number i < content_start_in used number) ⊎ ¬ HasCell kind used (pointer_in kind used number i))))
PageRefused _ used number = ⊥

-- the part of a cell, where cells of this kind have it
abbrev pub if_present : {A : Type 0} → Bool → A → Option A
if_present true x = Some x
if_present false x = None

-- The parts of the page's cells are the first ones of these, in order.
pub record HasPartsOf (p : Page) (parts : List Parts) : Type 0 where
  pub room : cell_count p ≤ length parts
  pub each : (i : ℕ) (c : Parts) → i < cell_count p → slice_get parts i ≡ Some c → HasParts p.kind p.used (pointer p i) c

-- This is cell i of the page.
pub record IsCell (p : Page) (i : ℕ) (cell : Cell) : Type 0 where
  pub parts : Parts
  pub has : HasParts p.kind p.used (pointer p i) parts
  pub page : cell.page ≡ p.number
  pub usable : cell.usable ≡ length p.used
  pub at : cell.at ≡ pointer p i
  pub child : cell.child ≡ if_present (is_interior p.kind) parts.child
  pub rowid : cell.rowid ≡ if_present (is_table p.kind) (cast_signed w64 parts.rowid)
  pub payload : cell.payload ≡ if_present (has_payload p.kind) parts.payload
  pub local : cell.local.now ≡ part p.used parts.body parts.local
  pub overflow : cell.overflow ≡ parts.overflow
