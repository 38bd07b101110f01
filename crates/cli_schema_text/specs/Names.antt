-- Names as a script has them (own).
use Rattle.std.specs.Prelude.{ℕ, zero, suc, ◌&&◌, Bool, true, not, if◌then◌else◌, List, [], ◌∷◌, ◌++◌, codes, length, map, Vec}
use Rattle.std.specs.declared.alloc.Global.{Global}
use Rattle.std.specs.Fmt.{decimal}
use Rattle.std.specs.List.{list_any, list_all}
use Rattle.std.specs.Str.{str_eq_ignore_ascii_case}
use Rattle.sqtext.specs.Texts.{has_nul_or_cr}
use Rattle.cli_row_text.specs.Inserts.{columns_text}
use Rattle.cli_row_text.specs.Lines.{between_marks}

-- A NUL ends a line for sqlite3's shell, and it drops a CR before LF, also in quotes.
abbrev pub can_be_named : (name : List ℕ) → Bool
can_be_named name = not (has_nul_or_cr name)

-- no two are equal, where ASCII's small letters are its capitals
abbrev pub are_distinct : List (Vec ℕ Global) → Bool
are_distinct [] = true
are_distinct (n ∷ names) = not (list_any (λ m. str_eq_ignore_ascii_case m.items n.items) names) && are_distinct names

-- so many names c1, c2 and so on
abbrev pub numbered : (count : ℕ) → List (List ℕ)
numbered zero = []
numbered (suc n) = numbered n ++ (codes "c" ++ decimal (suc n)) ∷ []

-- The names of a table's columns: their own, or numbered ones if a script can't have one of them or two are equal.
abbrev pub column_names : List (Vec ℕ Global) → List (List ℕ)
column_names names =
    if list_all (λ n. can_be_named n.items) names && are_distinct names then map (λ n. n.items) names
    else numbered (length names)

-- What makes a table of these columns where a script's own statement didn't. Without columns there is no such statement.
abbrev pub fallback_text : (table : List ℕ) → (columns : List (List ℕ)) → List ℕ
fallback_text table [] = []
fallback_text table (c ∷ columns) =
    codes "CREATE TABLE IF NOT EXISTS " ++ (between_marks 34 table ++ (codes "(" ++ (between_marks 34 c ++ (columns_text columns ++ codes ");\n"))))
