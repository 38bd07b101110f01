-- The line, or the object, of a deleted cell (own).
use Rattle.std.specs.Prelude.{◌≡◌, ℕ, nat_lt, if◌then◌else◌, List, [], ◌∷◌, ◌++◌, codes, length}
use Rattle.std.specs.Fmt.{decimal}
use Rattle.sqval.specs.Datum.{Datum}
use Rattle.cli_row_text.specs.declared.form.Form.{Form}
use Rattle.cli_row_text.specs.declared.form.Notation.{Notation}
use Rattle.cli_row_text.specs.declared.form.Notation.TheVariants.{Json}
use Rattle.cli_row_text.specs.Lines.{AreTexts, integer_text}
use Rattle.sqdeleted.specs.Deleted.{StandWhole}
use Rattle.sqdeleted.specs.declared.cell.DeletedCell.{DeletedCell}
use Rattle.cli_show_deleted.specs.declared.mark.Mark.{Mark}
use Rattle.cli_show_deleted.specs.declared.mark.Mark.TheVariants.{Stands, Went, Came, InFrame}

-- what stands before the page of a cell: that it went, or came, where changes are told, or the frame that has its page
abbrev pub opening_text : Mark → Notation → List ℕ
opening_text Stands Json = codes "{"
opening_text Stands _ = []
opening_text Went Json = codes "{\"change\":\"delete\","
opening_text Went _ = codes "- "
opening_text Came Json = codes "{\"change\":\"insert\","
opening_text Came _ = codes "+ "
opening_text (InFrame frame) Json = codes "{\"frame\":" ++ (decimal frame ++ codes ",")
opening_text (InFrame frame) _ = codes "frame " ++ (decimal frame ++ codes " ")

-- the page of a cell and its place there, before its rowid
abbrev pub place_text : Notation → DeletedCell → List ℕ
place_text Json cell =
    codes "\"page\":" ++ (decimal cell.page ++ (codes ",\"at\":" ++ (decimal cell.at ++ (codes ",\"size\":" ++ (decimal cell.size ++ codes ",\"rowid\":")))))
place_text _ cell = codes "page " ++ (decimal cell.page ++ (codes " at " ++ (decimal cell.at ++ codes " rowid ")))

-- what stands between its rowid and its values
abbrev pub colon_text : Notation → List ℕ
colon_text Json = codes ",\"values\":{"
colon_text _ = codes ": "

-- what stands behind them where the payload goes on in other pages: the first one that is named
abbrev pub cut_text : Notation → (overflow : ℕ) → List ℕ
cut_text Json overflow = codes "},\"overflow\":" ++ (decimal overflow ++ codes "}\n")
cut_text _ overflow = codes " .. page " ++ (decimal overflow ++ codes "\n")

abbrev pub end_text : Notation → List ℕ
end_text Json = codes "}}\n"
end_text _ = codes "\n"

abbrev pub tail_text : Notation → DeletedCell → List ℕ
tail_text notation cell = if nat_lt (length cell.local.now) cell.payload then cut_text notation cell.overflow else end_text notation

-- a cell, of whose values this is the text
abbrev pub text_with : Mark → Notation → DeletedCell → (all : List ℕ) → List ℕ
text_with mark notation cell all =
    opening_text mark notation ++ (place_text notation cell ++ (integer_text notation cell.rowid ++ (colon_text notation ++ (all ++ tail_text notation cell))))

-- The text of a cell: what is said of it, its place, its rowid, and the values that stand whole in its page, as rows have theirs.
abbrev pub IsCellText : Mark → Form → DeletedCell → List ℕ → Type 0
IsCellText mark form cell t =
    (values : List Datum) × (all : List ℕ) × StandWhole cell.local.now values × AreTexts form [] 0 values all × (t ≡ text_with mark form.notation cell all)

-- The text of each, one behind the other.
abbrev pub AreLines : Form → List DeletedCell → List ℕ → Type 0
AreLines form [] t = t ≡ []
AreLines form (cell ∷ cells) t = (own more : List ℕ) × IsCellText Stands form cell own × AreLines form cells more × (t ≡ own ++ more)
