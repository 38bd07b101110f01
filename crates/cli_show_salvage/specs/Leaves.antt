-- The rows of trees, cell by cell (own).
use Rattle.std.specs.Prelude.{◌↔◌, ◌⊎◌, ℕ, suc, Bool, true, List, [], ◌∷◌, ◌++◌, map, Option}
use Rattle.sqval.specs.Database.{Database}
use Rattle.sqpage.specs.Lists.{In, Apart}
use Rattle.sqpage.specs.Page.{Page, cell_count}
use Rattle.sqcheck.specs.Places.{page_as}
use Rattle.sqsalvage.specs.declared.cursor.Piece.{Piece}
use Rattle.sqsalvage.specs.declared.cursor.Piece.TheVariants.{Whole, Part}
use Rattle.sqsalvage.specs.Reached.{leaf_kind, interior_kind, page_in, IsLeaf, IsPiece, IsReachedFrom}
use Rattle.sqsalvage.specs.SalvageCursor.{IsMarked}
use Rattle.cli_show_salvage.specs.declared.book.Book.{Book}
use Rattle.cli_show_salvage.specs.declared.book.Target.{Target}
use Rattle.cli_show_salvage.specs.Cells.{IsCellTold}

-- The first n cells of a page were written, each once and in order.
pub data AreCellsTold (d : Database) (target : Target) (b : Page) (old : Book) (before : Option (List ℕ)) : (n : ℕ) → (new : Book) → (after : Option (List ℕ)) → Type 0 where
  none : AreCellsTold d target b old before 0 old before
  more : {n : ℕ} {mid new : Book} {at after : Option (List ℕ)} → AreCellsTold d target b old before n mid at
      → IsCellTold d target b n mid new at after → AreCellsTold d target b old before (suc n) new after

-- All cells of leaf p of a tree were.
abbrev pub IsLeafTold : Database → (table : Bool) → Target → (p : ℕ) → (old new : Book) → (before after : Option (List ℕ)) → Type 0
IsLeafTold d table target p old new before after =
    AreCellsTold d target (page_as d (leaf_kind table) p) old before (cell_count (page_as d (leaf_kind table) p)) new after

-- A piece of a tree was: a leaf, or one cell of an interior page.
abbrev pub IsPieceTold : Database → (table : Bool) → Target → Piece → (old new : Book) → (before after : Option (List ℕ)) → Type 0
IsPieceTold d table target (Whole p) old new before after = IsLeafTold d table target p old new before after
IsPieceTold d table target (Part p i) old new before after = IsCellTold d target (page_as d (interior_kind table) p) i old new before after

-- These pieces were, one by one.
pub data ArePiecesTold (d : Database) (table : Bool) (target : Target) (old : Book) (before : Option (List ℕ)) : List Piece → (new : Book) → (after : Option (List ℕ)) → Type 0 where
  nothing : ArePiecesTold d table target old before [] old before
  next : {pieces : List Piece} (x : Piece) {mid new : Book} {at after : Option (List ℕ)} → ArePiecesTold d table target old before pieces mid at
      → IsPieceTold d table target x mid new at after → ArePiecesTold d table target old before (pieces ++ x ∷ []) new after

-- The pieces were written of the pages that the tree of a root reaches past those that were passed before, each once; and what
-- is passed now.
pub record IsTreeTold (d : Database) (target : Target) (root : ℕ) (passed now_passed : List Bool) (old new : Book) (before after : Option (List ℕ)) : Type 0 where
  pub pieces : List Piece
  pub once : Apart pieces
  pub all : (x : Piece) → In x pieces ↔ (IsPiece d target.table x × IsReachedFrom d target.table (IsMarked passed) root (page_in x))
  pub passes : (p : ℕ) → IsMarked now_passed p ↔ (IsMarked passed p ⊎ IsReachedFrom d target.table (IsMarked passed) root p)
  pub told : ArePiecesTold d target.table target old before pieces new after

-- The leaves of tables were written that weren't passed, each once.
pub record AreLostTold (d : Database) (target : Target) (passed : List Bool) (old new : Book) (before after : Option (List ℕ)) : Type 0 where
  pub leaves : List ℕ
  pub once : Apart leaves
  pub all : (p : ℕ) → In p leaves ↔ (IsLeaf d true p × ¬ IsMarked passed p)
  pub told : ArePiecesTold d true target old before (map (λ p. Whole p) leaves) new after
