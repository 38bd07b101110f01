-- How the pages of a database and the cells of one are printed (own).
use Rattle.std.specs.Prelude.{ℕ, ℤ, List, [], ◌∷◌, ◌++◌, Option, None, Some, length, codes}
use denote.Ref.{Bor}
use Rattle.std.specs.Fmt.{decimal, signed_decimal}
use Rattle.std.specs.List.{flat_map}
use Rattle.hex.specs.Hex.{encode_lower}
use Rattle.sqval.specs.Datum.{Datum, null, integer, real, text, blob}
use Rattle.sqval.specs.RecordError.{number_of as refusal_number}
use Rattle.sqpage.specs.Faults.{number_of, name_of}
use Rattle.sqpage.specs.Page.{Page, cell_count}
use Rattle.sqpage.specs.declared.cell.Cell.{Cell}
use Rattle.sqpage.specs.declared.fault.Fault.{Fault}
use Rattle.cli_words.specs.declared.requests.Style.{Style}
use Rattle.cli_words.specs.declared.requests.Style.TheVariants.{Lines, Json}
use Rattle.cli_text.specs.declared.pages.Logged.{Logged}
use Rattle.cli_text.specs.declared.pages.Logged.TheVariants.{Frame, Record}
use Rattle.cli_text.specs.declared.pages.PageLine.{PageLine}
use Rattle.cli_text.specs.declared.pages.Unfit.{Unfit}
use Rattle.cli_text.specs.declared.pages.Unfit.TheVariants as unfits
use Rattle.cli_text.specs.Facts.{number_text, object_text, pair_text, word_text}
use Rattle.cli_text.specs.HexLines.{hex_end_text}
use Rattle.cli_text.specs.Words.{kind_word, of_page, use_word}

-- what a page is used for
abbrev pub use_part : Style → List ℕ → List ℕ
use_part Lines word = word
use_part Json word = word_text Json (codes "use") word

-- the page that it is of, if there is one
abbrev pub of_parts : Style → Option ℕ → List (List ℕ)
of_parts style None = []
of_parts style (Some page) = number_text style (codes "of") page ∷ []

-- the name of a tree; in an object its bytes in hex
abbrev pub name_part : Style → List ℕ → List ℕ
name_part Lines name = word_text Lines (codes "named") name
name_part Json name = word_text Json (codes "named") (encode_lower name)

-- the name of its tree, of which there may be none
abbrev pub named_parts : Style → Option (Bor (List ℕ)) → List (List ℕ)
named_parts style None = []
named_parts style (Some name) = name_part style name.now ∷ []

-- the place in a log: a frame or a record by its number
abbrev pub place_word : Style → Logged → List ℕ
place_word style (Frame n) = number_text style (codes "frame") n
place_word style (Record n) = number_text style (codes "record") n

-- the place in the log that counts
abbrev pub logged_part : Style → Logged → List ℕ
logged_part Lines logged = codes "from " ++ place_word Lines logged
logged_part Json logged = place_word Json logged

-- where it stands in the log that counts, if it does
abbrev pub logged_parts : Style → Option Logged → List (List ℕ)
logged_parts style None = []
logged_parts style (Some logged) = logged_part style logged ∷ []

-- a fault by its number and its name
abbrev pub fault_name_part : Style → Fault → List ℕ
fault_name_part Lines fault = name_of fault
fault_name_part Json fault = word_text Json (codes "name") (name_of fault)

-- the fault that was told at a page, if there was one
abbrev pub fault_parts : Style → Option Fault → List (List ℕ)
fault_parts style None = []
fault_parts style (Some fault) = number_text style (codes "fault") (number_of fault) ∷ fault_name_part style fault ∷ []

-- a page: its number, its use, and what else is told of it
abbrev pub page_line_text : Style → PageLine → List ℕ
page_line_text style line = object_text style (
    number_text style (codes "page") line.number
    ∷ use_part style (use_word line.role)
    ∷ (of_parts style (of_page line.role) ++ (named_parts style line.name
    ++ (logged_parts style line.logged ++ fault_parts style line.fault))))

-- a b-tree page by its number, without its cells
abbrev pub page_text : Style → (number : ℕ) → Page → List ℕ
page_text Lines number page =
    codes "page " ++ (decimal number ++ (codes " " ++ (kind_word page.kind
    ++ (codes ", " ++ (decimal (cell_count page) ++ codes " cells\n")))))
page_text Json number page = object_text Json (
    number_text Json (codes "page") number
    ∷ word_text Json (codes "kind") (kind_word page.kind)
    ∷ number_text Json (codes "cells") (cell_count page) ∷ [])

-- a cell's left child, if it has one
abbrev pub child_parts : Style → Option ℕ → List (List ℕ)
child_parts style None = []
child_parts style (Some child) = number_text style (codes "child") child ∷ []

-- a cell's rowid, if it has one
abbrev pub rowid_parts : Style → Option ℤ → List (List ℕ)
rowid_parts style None = []
rowid_parts style (Some rowid) = pair_text style (codes "rowid") (signed_decimal rowid) ∷ []

-- a cell's payload, if it has one: its size, how much of it is in the page, and its first overflow page
abbrev pub payload_parts : Style → (local overflow : ℕ) → Option ℕ → List (List ℕ)
payload_parts style local overflow None = []
payload_parts style local overflow (Some payload) =
    number_text style (codes "payload") payload
    ∷ number_text style (codes "local") local
    ∷ number_text style (codes "overflow") overflow ∷ []

-- a cell: its number, its place, and the parts that it has
abbrev pub cell_text : Style → (i : ℕ) → Cell → List ℕ
cell_text style i cell = object_text style (
    number_text style (codes "cell") i
    ∷ number_text style (codes "at") cell.at
    ∷ (child_parts style cell.child ++ (rowid_parts style cell.rowid
    ++ payload_parts style (length cell.local.now) cell.overflow cell.payload)))

-- what stands before a column's bytes
abbrev pub content_start : Style → (name : List ℕ) → List ℕ
content_start Lines name = codes "  " ++ (name ++ codes " ")
content_start Json name = codes "{\"" ++ (name ++ codes "\":\"")

-- a column of bytes, which are of this type
abbrev pub content_text : Style → (name bytes : List ℕ) → List ℕ
content_text style name bytes = content_start style name ++ (encode_lower bytes ++ hex_end_text style)

-- a column
abbrev pub column_text : Style → Datum → List ℕ
column_text Lines null = codes "  null\n"
column_text Json null = codes "{\"null\":null}\n"
column_text Lines (integer n) = codes "  int " ++ (signed_decimal n ++ codes "\n")
column_text Json (integer n) = codes "{\"int\":" ++ (signed_decimal n ++ codes "}\n")
column_text style (real bytes) = content_text style (codes "real") bytes
column_text style (text bytes) = content_text style (codes "text") bytes
column_text style (blob bytes) = content_text style (codes "blob") bytes

-- the columns of a record
abbrev pub columns_text : Style → List Datum → List ℕ
columns_text style columns = flat_map (column_text style) columns

-- why no columns of a cell are shown: what is refused
abbrev pub unfit_word : Unfit → List ℕ
unfit_word (unfits.Payload fault) = codes "payload refused"
unfit_word (unfits.Record error) = codes "record refused"

-- the number of the refusal
abbrev pub unfit_number : Unfit → ℕ
unfit_number (unfits.Payload fault) = number_of fault
unfit_number (unfits.Record error) = refusal_number error

-- that a cell shows no columns
abbrev pub unfit_text : Style → Unfit → List ℕ
unfit_text Lines unfit = codes "  " ++ (unfit_word unfit ++ (codes " " ++ (decimal (unfit_number unfit) ++ codes "\n")))
unfit_text Json unfit = object_text Json (number_text Json (unfit_word unfit) (unfit_number unfit) ∷ [])
