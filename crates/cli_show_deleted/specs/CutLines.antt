-- The line, or the object, of a deleted cell that lost its first four bytes (own).
use Rattle.std.specs.Prelude.{◌≡◌, ℕ, List, [], ◌∷◌, ◌++◌, codes}
use Rattle.std.specs.Fmt.{decimal}
use Rattle.sqval.specs.Datum.{Datum}
use Rattle.cli_row_text.specs.declared.form.Form.{Form}
use Rattle.cli_row_text.specs.declared.form.Notation.{Notation}
use Rattle.cli_row_text.specs.declared.form.Notation.TheVariants.{Json}
use Rattle.cli_row_text.specs.Lines.{AreTexts}
use Rattle.sqdeleted.specs.Cut.{AreHeld}
use Rattle.sqdeleted.specs.declared.cut.CutCell.{CutCell}
use Rattle.cli_show_deleted.specs.Lines.{end_text, opening_text}
use Rattle.cli_show_deleted.specs.declared.mark.Mark.{Mark}
use Rattle.cli_show_deleted.specs.declared.mark.Mark.TheVariants.{Stands}

-- the page of a cell and its place there, that its rowid isn't known, and how many of its bytes are lost
abbrev pub cut_place_text : Notation → CutCell → List ℕ
cut_place_text Json cell =
    codes "\"page\":" ++ (decimal cell.page ++ (codes ",\"at\":" ++ (decimal cell.at ++ (codes ",\"size\":" ++ (decimal cell.size ++ codes ",\"rowid\":null,\"cut\":4,\"values\":{")))))
cut_place_text _ cell = codes "page " ++ (decimal cell.page ++ (codes " at " ++ (decimal cell.at ++ codes " rowid ?: ")))

-- a cell, of whose values this is the text
abbrev pub cut_text_with : Mark → Notation → CutCell → (all : List ℕ) → List ℕ
cut_text_with mark notation cell all = opening_text mark notation ++ (cut_place_text notation cell ++ (all ++ end_text notation))

-- The text of a cell: what is said of it, its place, and the values that are left, as rows have theirs.
abbrev pub IsCutText : Mark → Form → CutCell → List ℕ → Type 0
IsCutText mark form cell t =
    (values : List Datum) × (all : List ℕ) × AreHeld cell.types.now cell.bodies.now values × AreTexts form [] 0 values all × (t ≡ cut_text_with mark form.notation cell all)

-- The text of each, one behind the other.
abbrev pub AreCutLines : Form → List CutCell → List ℕ → Type 0
AreCutLines form [] t = t ≡ []
AreCutLines form (cell ∷ cells) t = (own more : List ℕ) × IsCutText Stands form cell own × AreCutLines form cells more × (t ≡ own ++ more)
