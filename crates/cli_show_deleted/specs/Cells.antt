-- The deleted cells of a page, by what it is used for (own).
use Rattle.std.specs.Prelude.{◌≡◌, ◌↔◌, ℕ, List, length, map}
use Rattle.sqpage.specs.declared.cell.Parts.{Parts}
use Rattle.sqpage.specs.declared.kind.Kind.{Kind}
use Rattle.sqpage.specs.declared.kind.Kind.TheVariants.{TableLeaf}
use Rattle.sqpage.specs.Header.{byte}
use Rattle.sqpage.specs.Lists.{In, Every}
use Rattle.sqpage.specs.Page.{HasParts, code_of, head_at}
use Rattle.sqcheck.specs.declared.role.Role.{Role}
use Rattle.sqcheck.specs.declared.role.Role.TheVariants.{Btree, FreeTrunk, FreeLeaf, Unused}
use Rattle.sqdeleted.specs.Deleted.{StandsBetween, IsDeleted, IsCellOf}
use Rattle.sqdeleted.specs.DeletedCursor.{Rise}
use Rattle.sqdeleted.specs.declared.cell.DeletedCell.{DeletedCell}

-- A deleted cell of these parts stands at this place: in a gap of a page of a tree, by its own type byte, or anywhere in a page
-- that is free or that nothing uses. Other pages have none.
abbrev pub StandsIn : Role → (used : List ℕ) → (number at : ℕ) → Parts → Type 0
StandsIn (Btree kind root) used number at c = (own : Kind) × (byte used (head_at number) ≡ code_of own) × IsDeleted own used number at c
StandsIn FreeTrunk used number at c = StandsBetween used 0 (length used) at c
StandsIn FreeLeaf used number at c = StandsBetween used 0 (length used) at c
StandsIn Unused used number at c = StandsBetween used 0 (length used) at c
StandsIn _ used number at c = ⊥

-- This is the cell that stands at its place.
abbrev pub IsCellIn : (used : List ℕ) → (number : ℕ) → DeletedCell → Type 0
IsCellIn used number cell = (c : Parts) × HasParts TableLeaf used cell.at c × IsCellOf used number cell.at c cell

abbrev pub places_of : List DeletedCell → List ℕ
places_of cells = map (λ cell. cell.at) cells

-- These are the deleted cells of a page, each once, in the order of their places.
pub record AreCellsOf (role : Role) (used : List ℕ) (number : ℕ) (cells : List DeletedCell) : Type 0 where
  pub rise : Rise 0 (places_of cells)
  pub all : (at : ℕ) → In at (places_of cells) ↔ ((c : Parts) × StandsIn role used number at c)
  pub each : Every (IsCellIn used number) cells
