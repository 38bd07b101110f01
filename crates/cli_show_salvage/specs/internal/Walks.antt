-- Pieces of trees on the way (own). No public contract cites these words.
use Rattle.std.specs.Prelude.{◌≡◌, ◌↔◌, ℕ, true, List, ◌++◌, map, Option, Some, None}
use Rattle.sqval.specs.Database.{Database}
use Rattle.sqpage.specs.Page.{Page, cell_count}
use Rattle.sqsalvage.specs.declared.cursor.Piece.{Piece}
use Rattle.sqsalvage.specs.declared.cursor.Piece.TheVariants.{Whole}
use Rattle.sqsalvage.specs.declared.cursor.Salvage.{Salvage}
use Rattle.sqsalvage.specs.SalvageCursor.{IsOver, IsPassed, PiecesLeft, LostLeft}
use Rattle.cli_show_salvage.specs.declared.book.Book.{Book}
use Rattle.cli_show_salvage.specs.declared.book.Target.{Target}
use Rattle.cli_show_salvage.specs.Cells.{IsCellTold}
use Rattle.cli_show_salvage.specs.Leaves.{AreCellsTold, ArePiecesTold}

-- What was read was written: all cells of a leaf, or one cell of an interior page.
abbrev pub IsReadTold : Database → Target → Page → (cell : Option ℕ) → (old new : Book) → (before after : Option (List ℕ)) → Type 0
IsReadTold d target b None old new before after = AreCellsTold d target b old before (cell_count b) new after
IsReadTold d target b (Some i) old new before after = IsCellTold d target b i old new before after

-- On the way from where the cursor stood these pieces were written, and those that are left come behind them.
pub record Walked (d : Database) (target : Target) (start now_at : Salvage) (old new : Book) (before after : Option (List ℕ)) : Type 0 where
  pub done : List Piece
  pub over : IsOver d now_at
  pub kind : now_at.table ≡ start.table
  pub left : (pieces : List Piece) → PiecesLeft d now_at pieces → PiecesLeft d start (done ++ pieces)
  pub passed : (p : ℕ) → IsPassed d start p ↔ IsPassed d now_at p
  pub told : ArePiecesTold d start.table target old before done new after

-- The same of leaves that no tree reaches.
pub record LostWalked (d : Database) (target : Target) (start now_at : Salvage) (old new : Book) (before after : Option (List ℕ)) : Type 0 where
  pub done : List ℕ
  pub over : IsOver d now_at
  pub left : (leaves : List ℕ) → LostLeft d now_at leaves → LostLeft d start (done ++ leaves)
  pub told : ArePiecesTold d true target old before (map (λ p. Whole p) done) new after
