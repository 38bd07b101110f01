-- What stands before changes, and what they begin with (own).
use Rattle.std.specs.Prelude.{ℕ, List, [], ◌++◌, codes, Option, Some, None}
use Rattle.std.specs.Fmt.{decimal}
use Rattle.sqtables.specs.declared.columns.Columns.{Columns}
use Rattle.cli_row_text.specs.Lines.{between_marks, json_string}
use Rattle.cli_change_text.specs.Names.{name_at}

-- the line that names a table
abbrev pub title_text : (table : List ℕ) → List ℕ
title_text table = codes "table " ++ (between_marks 34 table ++ codes "\n")

-- what an object begins with: the frame that ends the commit, where one is named, and the table
abbrev pub opening_text : (commit : Option ℕ) → List ℕ
opening_text None = codes "{\"table\":"
opening_text (Some frame) = codes "{\"frame\":" ++ (decimal frame ++ codes ",\"table\":")

abbrev pub object_head : (commit : Option ℕ) → (table : List ℕ) → List ℕ
object_head commit table = opening_text commit ++ (json_string table ++ codes ",\"change\":\"")

-- what the rowid is called: by its name, or by that of the column that is another name for it
abbrev pub alias_text : Option (List ℕ) → List ℕ
alias_text (Some name) = between_marks 34 name
alias_text None = []

abbrev pub key_text : Columns → (rowid : Option (List ℕ)) → List ℕ
key_text columns (Some name) = name
key_text columns None = alias_text (name_at columns columns.alias)

-- what the DELETE of a row begins with, before its condition
abbrev pub removal_start : (table : List ℕ) → List ℕ
removal_start table = codes "DELETE FROM " ++ (between_marks 34 table ++ codes " WHERE ")

-- and before its rowid
abbrev pub removal_head : (table : List ℕ) → Columns → (rowid : Option (List ℕ)) → List ℕ
removal_head table columns rowid = removal_start table ++ (key_text columns rowid ++ codes "=")
