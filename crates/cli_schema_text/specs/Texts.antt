-- The texts of a schema as a script for sqlite3's shell has them (own).
use Rattle.std.specs.Prelude.{◌≡◌, ℕ, ◌==◌, ◌||◌, Bool, true, false, if◌then◌else◌, List, [], ◌++◌, length, take, drop, slice_index, codes, None}
use Rattle.std.specs.List.{prefix_len}
use Rattle.hex.specs.Hex.{encode_lower}
use Rattle.schema_print.specs.Printable.{IsPrinted}
use Rattle.schema_print.specs.declared.refusals.Row.{Row}
use Rattle.schema_print.specs.declared.refusals.Printed.{Printed}
use Rattle.schema_print.specs.declared.refusals.Printed.TheVariants.{AsItIs, Spaced, RowOfSchema, Comment}
use Rattle.cli_schema_text.specs.Comments.{hex_line, left_out_text, why_text}

-- a row of sqlite_schema with this type and name, whose tbl_name isn't known
pub record IsRow (type_name named : List ℕ) (row : Row) : Type 0 where
  pub kind : row.kind.now ≡ type_name
  pub name : row.name.now ≡ named
  pub table : row.table ≡ None

-- How the text of an object of this type and name is printed.
abbrev pub IsJudged : (kind name sql : List ℕ) → Printed → Type 0
IsJudged kind name sql p = (row : Row) × IsRow kind name row × IsPrinted sql row p

-- a blank that may stand before `;`
abbrev pub is_end_blank : ℕ → Bool
is_end_blank b = b == 32 || b == 9 || b == 10

-- what stands between the last token of a statement and its end, or the `;` there; nothing if it isn't only blanks
unfoldable pub end_blanks : (rest : List ℕ) → List ℕ
end_blanks rest =
    let n = prefix_len is_end_blank rest in
    if n == length rest || slice_index rest n == 59 then take n rest else []

-- A text as it is, to the end of its last token and with the blanks behind it; or its bytes in a comment, and the statement
-- with other blanks; or a comment alone, which says why.
abbrev pub printed_text : (sql : List ℕ) → Printed → List ℕ
printed_text sql (AsItIs last) = take last sql ++ (end_blanks (drop last sql) ++ codes ";\n")
printed_text sql (Spaced v) = codes "-- printed with other blanks" ++ (hex_line sql ++ (v.items ++ codes ";\n"))
printed_text sql RowOfSchema = left_out_text (codes "a virtual table with rows of its own") sql
printed_text sql (Comment why) = left_out_text (why_text why) sql

-- a comment stands for it
abbrev pub is_left_out : Printed → Bool
is_left_out (AsItIs last) = false
is_left_out (Spaced v) = false
is_left_out RowOfSchema = true
is_left_out (Comment why) = true

-- The text of an object of this type and name was printed as `t`.
abbrev pub IsTextPrinted : (kind name sql t : List ℕ) → Type 0
IsTextPrinted kind name sql t = (p : Printed) × IsJudged kind name sql p × (t ≡ printed_text sql p)

-- bytes as a text, in the encoding of the database that reads them
abbrev pub cast_text : List ℕ → List ℕ
cast_text bytes = codes "CAST(X'" ++ (encode_lower bytes ++ codes "' AS TEXT)")

-- The row of a virtual table, put into the schema by itself (SQLite's pragma, "writable_schema"), so that its module makes no
-- table again. Its name and text are in the database's encoding.
abbrev pub schema_row_text : (name sql : List ℕ) → List ℕ
schema_row_text name sql =
    codes "PRAGMA writable_schema=ON;\nINSERT OR ABORT INTO sqlite_schema(type,name,tbl_name,rootpage,sql) VALUES('table',"
    ++ ((cast_text name ++ (codes "," ++ (cast_text name ++ codes ",0,"))) ++ (cast_text sql ++ codes ");\nPRAGMA writable_schema=OFF;\n"))
