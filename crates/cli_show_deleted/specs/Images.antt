-- The cells in the image of a page that the page as it is shown doesn't have (own).
use Rattle.std.specs.Prelude.{◌≡◌, ◌≢◌, ◌↔◌, ℕ, ◌-◌, List, [], ◌∷◌, ◌++◌, length}
use Rattle.sqval.specs.Bytes.{part}
use Rattle.sqpage.specs.declared.cell.Parts.{Parts}
use Rattle.sqpage.specs.Lists.{In, Every}
use Rattle.sqdeleted.specs.Deleted.{StandsBetween}
use Rattle.sqdeleted.specs.DeletedCursor.{Rise}
use Rattle.sqdeleted.specs.declared.cell.DeletedCell.{DeletedCell}
use Rattle.cli_row_text.specs.declared.form.Form.{Form}
use Rattle.cli_show_deleted.specs.Cells.{IsCellIn, places_of}
use Rattle.cli_show_deleted.specs.Lines.{IsCellText}
use Rattle.cli_show_deleted.specs.declared.mark.Mark.TheVariants.{InFrame}

-- A cell of a leaf of a table, of these parts, stands whole in the image at this place, and its bytes don't stand there in the
-- page that is shown.
abbrev pub StandsAlone : (used shown : List ℕ) → (at : ℕ) → Parts → Type 0
StandsAlone used shown at c = StandsBetween used 0 (length used) at c × (part used at (c.end - at) ≢ part shown at (c.end - at))

-- These are those cells of the image of a page, each once, in the order of their places.
pub record AreCellsAlone (used shown : List ℕ) (number : ℕ) (cells : List DeletedCell) : Type 0 where
  pub rise : Rise 0 (places_of cells)
  pub all : (at : ℕ) → In at (places_of cells) ↔ ((c : Parts) × StandsAlone used shown at c)
  pub each : Every (IsCellIn used number) cells

-- The text of each, one behind the other, with the frame that has the image.
abbrev pub AreFrameLines : Form → (frame : ℕ) → List DeletedCell → List ℕ → Type 0
AreFrameLines form frame [] t = t ≡ []
AreFrameLines form frame (cell ∷ cells) t =
    (own more : List ℕ) × IsCellText (InFrame frame) form cell own × AreFrameLines form frame cells more × (t ≡ own ++ more)

-- The text of the image of a page: the lines of those cells.
abbrev pub IsTextOfImage : Form → (frame number : ℕ) → (used shown : List ℕ) → List ℕ → Type 0
IsTextOfImage form frame number used shown t =
    (cells : List DeletedCell) × AreCellsAlone used shown number cells × AreFrameLines form frame cells t
