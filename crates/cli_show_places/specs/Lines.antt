-- Where rows stand, as it is printed (own).
use Rattle.std.specs.Prelude.{ℕ, ℤ, Bool, true, false, List, [], ◌++◌, codes, Option, Some, None}
use Rattle.std.specs.Fmt.{decimal, signed_decimal}
use Rattle.std.specs.List.{flat_map}
use Rattle.sqrows.specs.Trees.{Entry}
use Rattle.cli_words.specs.declared.requests.Style.{Style}
use Rattle.cli_words.specs.declared.requests.Style.TheVariants.{Lines, Json}
use Rattle.cli_row_text.specs.Lines.{json_string}
use Rattle.cli_show_rows.specs.Dumps.{title_text}
use Rattle.cli_show_places.specs.declared.line.Place.{Place}
use Rattle.cli_show_places.specs.declared.table.Form.{Form}

-- the page and the cell
abbrev pub start_text : Style → (page cell : ℕ) → List ℕ
start_text Lines page cell = decimal page ++ (codes "," ++ (decimal cell ++ codes ","))
start_text Json page cell = codes "{\"page\":" ++ (decimal page ++ (codes ",\"cell\":" ++ decimal cell))

-- the frame, if there is one
abbrev pub frame_text : Style → Option ℕ → List ℕ
frame_text style None = []
frame_text Lines (Some frame) = decimal frame
frame_text Json (Some frame) = codes ",\"frame\":" ++ decimal frame

-- the rowid, if there is one
abbrev pub rowid_text : Style → Option ℤ → List ℕ
rowid_text Lines None = codes ","
rowid_text Lines (Some rowid) = codes "," ++ signed_decimal rowid
rowid_text Json None = []
rowid_text Json (Some rowid) = codes ",\"rowid\":" ++ signed_decimal rowid

abbrev pub end_text : Style → List ℕ
end_text Lines = codes "\n"
end_text Json = codes "}\n"

-- The line of a row, or its object, which has no members for what the row hasn't.
abbrev pub place_text : Style → Place → List ℕ
place_text style place = start_text style place.page place.cell ++ (frame_text style place.frame ++ (rowid_text style place.rowid ++ end_text style))

-- where a cell stands, by the frames of pages
abbrev pub place_of : (frames : ℕ → Option ℕ) → Entry → Place
place_of frames e = record { page = e.page; cell = e.index; frame = frames e.page; rowid = e.rowid }

-- the lines of cells in their order
abbrev pub places_text : (frames : ℕ → Option ℕ) → Style → List Entry → List ℕ
places_text frames style xs = flat_map (λ e. place_text style (place_of frames e)) xs

-- the object that names a table
abbrev pub object_text : (name : List ℕ) → List ℕ
object_text name = codes "{\"table\":" ++ (json_string name ++ codes "}\n")

-- what names a table: a line, where tables are titled, or an object
abbrev pub name_text : Style → (titled : Bool) → (name : List ℕ) → List ℕ
name_text Lines true name = title_text name
name_text Lines false name = []
name_text Json titled name = object_text name

-- the names of what a line has
abbrev pub columns_text : Style → List ℕ
columns_text Lines = codes "\"page\",\"cell\",\"frame\",\"rowid\"\n"
columns_text Json = []

abbrev pub head_text : Form → (name : List ℕ) → List ℕ
head_text form name = name_text form.style form.titled name ++ columns_text form.style

-- the heading of a table, and the lines of its cells
abbrev pub table_text : (frames : ℕ → Option ℕ) → Form → (name : List ℕ) → List Entry → List ℕ
table_text frames form name xs = head_text form name ++ places_text frames form.style xs
