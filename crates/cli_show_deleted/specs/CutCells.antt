-- The deleted cells of a page that lost their first four bytes, by what the page is used for (own).
use Rattle.std.specs.Prelude.{◌≡◌, ◌≢◌, ◌↔◌, ◌⊎◌, ℕ, ◌<◌, ◌≤◌, List, [], length}
use Rattle.sqpage.specs.declared.cell.Parts.{Parts}
use Rattle.sqpage.specs.declared.kind.Kind.{Kind}
use Rattle.sqpage.specs.Header.{byte}
use Rattle.sqpage.specs.Page.{code_of, head_at}
use Rattle.sqcheck.specs.declared.role.Role.{Role}
use Rattle.sqcheck.specs.declared.role.Role.TheVariants.{Btree, FreeTrunk, FreeLeaf, Unused}
use Rattle.sqdeleted.specs.Cut.{AreCutBetween, AreCutOff, IsHeld, IsWhole}
use Rattle.sqdeleted.specs.declared.cut.CutCell.{CutCell}
use Rattle.sqdeleted.specs.declared.whole.WholeCells.{WholeCells}
use Rattle.cli_show_deleted.specs.Cells.{StandsIn}

-- At these places the deleted cells of a page stand whole, and they have these bytes.
pub record AreWholeIn (role : Role) (used : List ℕ) (number : ℕ) (w : WholeCells) : Type 0 where
  pub begin : (at : ℕ) → IsWhole w.begin.items at ↔ ((c : Parts) × StandsIn role used number at c)
  pub held : (at : ℕ) → IsHeld w at ↔ ((place : ℕ) × (c : Parts) × StandsIn role used number place c × (place ≤ at) × (at < c.end))

-- These are the cells of a page that lost their first four bytes, where those stand whole: in the gaps of a page of a tree, by its
-- own type byte, or anywhere in a page that is free or that nothing uses. Other pages have none.
abbrev pub AreCutsIn : Role → (used : List ℕ) → WholeCells → (number : ℕ) → List CutCell → Type 0
AreCutsIn (Btree kind root) used w number cells =
    ((own : Kind) × (byte used (head_at number) ≡ code_of own) × AreCutOff own used w number cells)
    ⊎ (((own : Kind) → byte used (head_at number) ≢ code_of own) × (cells ≡ []))
AreCutsIn FreeTrunk used w number cells = AreCutBetween used w number 0 (length used) cells
AreCutsIn FreeLeaf used w number cells = AreCutBetween used w number 0 (length used) cells
AreCutsIn Unused used w number cells = AreCutBetween used w number 0 (length used) cells
AreCutsIn _ used w number cells = cells ≡ []

-- These are the cells of a page that lost their first four bytes, in the order of their places.
abbrev pub AreCutCellsOf : Role → (used : List ℕ) → (number : ℕ) → List CutCell → Type 0
AreCutCellsOf role used number cells = (w : WholeCells) × AreWholeIn role used number w × AreCutsIn role used w number cells
