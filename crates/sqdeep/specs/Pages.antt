-- Pages of trees, beyond their layout (fileformat2, 1.6).
use Rattle.std.specs.Prelude.{◌≡◌, ◌⊎◌, ℕ, suc, ◌+◌, ◌≤◌, false, List, [], ◌∷◌}
use Rattle.sqpage.specs.Layout.{Span, HasFreeblocks}
use Rattle.sqpage.specs.Page.{Page, is_interior, cell_count, content_start_in}
use Rattle.sqdeep.specs.declared.fault.InnerFault.{InnerFault}
use Rattle.sqdeep.specs.declared.fault.InnerFault.TheVariants.{EmptyPage, FreeblockGap}

-- A page of this tree has cells, unless it is the root of an empty tree. Page 1 has room for less than another page, and
-- may be an interior one with a right child alone.
abbrev pub IsFilled : Page → (root : ℕ) → Type 0
IsFilled b root = cell_count b ≡ 0 → (b.number ≡ root) × ((is_interior b.kind ≡ false) ⊎ (root ≡ 1))

-- The first freeblock begins at `least` or later, and each further one 4 bytes or more behind the end of the one before:
-- fewer bytes between them would be part of a freeblock.
abbrev pub AreSpaced : (least : ℕ) → List Span → Type 0
AreSpaced least [] = Unit {0}
AreSpaced least (block ∷ blocks) = (least ≤ block.start) × AreSpaced (block.start + block.size + 4) blocks

-- the freeblocks of a page stand apart, and a cell before the first one
abbrev pub HasSpacedBlocks : Page → Type 0
HasSpacedBlocks b = (blocks : List Span) × HasFreeblocks b blocks × AreSpaced (suc (content_start_in b.used b.number)) blocks

-- A page of the tree with this root.
pub record IsTidyPage (b : Page) (root : ℕ) : Type 0 where
  pub filled : IsFilled b root
  pub spaced : HasSpacedBlocks b

-- What is wrong with a page of the tree with this root.
abbrev pub PageRefused : Page → (root : ℕ) → InnerFault → Type 0
PageRefused b root EmptyPage = ¬ IsFilled b root
PageRefused b root FreeblockGap = (blocks : List Span) × HasFreeblocks b blocks × ¬ AreSpaced (suc (content_start_in b.used b.number)) blocks
PageRefused b root _ = ⊥
