-- What stands before the values of an INSERT (SQLite's lang_insert).
use Rattle.std.specs.Prelude.{ℕ, List, [], ◌++◌, codes, Option, Some, None, option_map}
use Rattle.std.specs.Borrow.{Bor}
use Rattle.std.specs.List.{flat_map}
use Rattle.cli_row_text.specs.Lines.{between_marks}

abbrev pub rowid_name : Option (Bor (List ℕ)) → Option (List ℕ)
rowid_name name = option_map (λ n. n.now) name

-- a comma and a name in quotes
abbrev pub quoted : List ℕ → List ℕ
quoted name = codes "," ++ between_marks 34 name

-- each of these names behind a comma
abbrev pub columns_text : List (List ℕ) → List ℕ
columns_text names = flat_map quoted names

-- the name of the rowid and those of the columns in parentheses, where the rowid is written
abbrev pub columns_listed : (rowid : Option (List ℕ)) → List (List ℕ) → List ℕ
columns_listed (Some rowid) names = codes "(" ++ (rowid ++ (columns_text names ++ codes ")"))
columns_listed None names = []

-- What is written before the values of an INSERT into this table. OR ABORT overrides each ON CONFLICT clause of the table's text
-- (SQLite's lang_conflict), so a row that breaks a constraint is an error and never dropped.
abbrev pub insert_text : (table : List ℕ) → (rowid : Option (List ℕ)) → List (List ℕ) → List ℕ
insert_text table rowid names = codes "INSERT OR ABORT INTO " ++ (between_marks 34 table ++ (columns_listed rowid names ++ codes " VALUES("))
