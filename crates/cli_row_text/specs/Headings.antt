-- What stands before the rows of a table (own).
use Rattle.std.specs.Prelude.{ℕ, List, [], ◌∷◌, ◌++◌, codes}
use Rattle.std.specs.List.{flat_map}
use Rattle.cli_row_text.specs.declared.form.Notation.{Notation}
use Rattle.cli_row_text.specs.declared.form.Notation.TheVariants.{Json, Csv, Sql}
use Rattle.cli_row_text.specs.Lines.{between_marks, json_string}

-- a name in quotes
abbrev pub name_in_quotes : Notation → List ℕ → List ℕ
name_in_quotes Json name = json_string name
name_in_quotes Csv name = between_marks 34 name
name_in_quotes Sql name = between_marks 34 name

-- the same behind a comma
abbrev pub next_name : Notation → List ℕ → List ℕ
next_name notation name = codes "," ++ name_in_quotes notation name

-- names in quotes with commas between them
abbrev pub names_listed : Notation → List (List ℕ) → List ℕ
names_listed notation [] = []
names_listed notation (name ∷ names) = name_in_quotes notation name ++ flat_map (next_name notation) names

-- What stands before the rows of a table of this name and with these columns: an object whose member `columns` is an array,
-- which no row has; a line of the names; nothing before INSERTs.
abbrev pub heading_text : Notation → (table : List ℕ) → List (List ℕ) → List ℕ
heading_text Json table names = codes "{\"table\":" ++ (json_string table ++ (codes ",\"columns\":[" ++ (names_listed Json names ++ codes "]}\n")))
heading_text Csv table names = names_listed Csv names ++ codes "\n"
heading_text Sql table names = []
