-- The cells of an image, told where the page that is shown hasn't their bytes.
use Rattle.std.specs.Prelude.{◌≡◌, ◌⊎◌, ℕ, List, [], ◌∷◌, ◌++◌}
use Rattle.sqval.specs.Bytes.{part}
use Rattle.sqdeleted.specs.declared.cell.DeletedCell.{DeletedCell}
use Rattle.cli_row_text.specs.declared.form.Form.{Form}
use Rattle.cli_show_deleted.specs.Lines.{IsCellText}
use Rattle.cli_show_deleted.specs.declared.mark.Mark.TheVariants.{InFrame}

-- The bytes of the cell stand at its place in the page that is shown.
abbrev pub StaysIn : (used shown : List ℕ) → DeletedCell → Type 0
StaysIn used shown cell = part used cell.at cell.size ≡ part shown cell.at cell.size

-- Its text; none where they do.
abbrev pub IsTextAlone : Form → (frame : ℕ) → (used shown : List ℕ) → DeletedCell → List ℕ → Type 0
IsTextAlone form frame used shown cell t =
    ((¬ StaysIn used shown cell) × IsCellText (InFrame frame) form cell t) ⊎ (StaysIn used shown cell × (t ≡ []))

-- The text of each, one behind the other.
abbrev pub AreTextsAlone : Form → (frame : ℕ) → (used shown : List ℕ) → List DeletedCell → List ℕ → Type 0
AreTextsAlone form frame used shown [] t = t ≡ []
AreTextsAlone form frame used shown (cell ∷ cells) t =
    (own more : List ℕ) × IsTextAlone form frame used shown cell own × AreTextsAlone form frame used shown cells more × (t ≡ own ++ more)
