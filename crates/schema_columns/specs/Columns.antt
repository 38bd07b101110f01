-- The columns of a table (lang_createtable, 3; gencol; build.c).
use Rattle.std.specs.Prelude.{ℕ, ◌-◌, Bool, true, false, not, if◌then◌else◌, List, [], ◌∷◌, take, drop, take_while, slice_get, codes, Option, Some, None}
use Rattle.std.specs.List.{prefix_len, list_any}
use Rattle.std.specs.Option.{option_map_or}
use Rattle.schema_tokens.specs.Bytes.{is_blank}
use Rattle.schema_tokens.specs.declared.kinds.Piece.{Piece}
use Rattle.schema_print.specs.Statements.{is_word, is_open}
use Rattle.schema_columns.specs.Types.{trimmed}
use Rattle.schema_text.specs.declared.clauses.Rule.{Rule}
use Rattle.schema_text.specs.declared.clauses.Rule.TheVariants as rules
use Rattle.schema_text.specs.declared.clauses.Clause.{Clause}
use Rattle.schema_columns.specs.declared.columns.Column.{Column}
use Rattle.schema_columns.specs.declared.columns.Wanted.{Wanted}
use Rattle.schema_columns.specs.declared.columns.Wanted.TheVariants as wanted

abbrev pub is_column_rule : Rule → Bool
is_column_rule rules.Column = true
is_column_rule _ = false

abbrev pub is_separator_rule : Rule → Bool
is_separator_rule rules.Comma = true
is_separator_rule rules.Close = true
is_separator_rule _ = false

abbrev pub is_not_null_rule : Rule → Bool
is_not_null_rule rules.NotNull = true
is_not_null_rule _ = false

abbrev pub is_without_rowid_rule : Rule → Bool
is_without_rowid_rule rules.WithoutRowid = true
is_without_rowid_rule _ = false

abbrev pub is_strict_rule : Rule → Bool
is_strict_rule rules.Strict = true
is_strict_rule _ = false

abbrev pub is_wanted : Wanted → Rule → Bool
is_wanted wanted.Default rules.Default = true
is_wanted wanted.Collate rules.Collate = true
is_wanted wanted.Generated rules.Generated = true
is_wanted wanted.Primary rules.PrimaryKey = true
is_wanted wanted.TermCollate rules.TermCollate = true
is_wanted _ _ = false

-- what is later in a text, if there is something
abbrev pub later_of : Option Clause → Option Clause → Option Clause
later_of None first = first
later_of (Some c) first = Some c

-- the last clause of the kind that is wanted
abbrev pub last_of : Wanted → List Clause → Option Clause
last_of kind [] = None
last_of kind (c ∷ cs) = later_of (last_of kind cs) (if is_wanted kind c.rule then Some c else None)

-- the clauses before the first `,` or `)`
unfoldable pub own_clauses : List Clause → List Clause
own_clauses cs = take_while (λ c. not (is_separator_rule c.rule)) cs

-- A column with its own clauses: a second DEFAULT or COLLATE replaces the first; NULL takes no NOT NULL back.
unfoldable pub column_of : (name : Clause) (own : List Clause) → Column
column_of name own = record {
  name = name.from;
  type_end = name.to;
  not_null = list_any (λ c. is_not_null_rule c.rule) own;
  default = last_of wanted.Default own;
  collate = last_of wanted.Collate own;
  generated = last_of wanted.Generated own;
  primary = last_of wanted.Primary own;
}

-- the columns, each with the clauses up to the next `,` or `)`
abbrev pub columns_of : List Clause → List Column
columns_of [] = []
columns_of (c ∷ cs) =
    if is_column_rule c.rule then column_of c (own_clauses cs) ∷ columns_of cs else columns_of cs

-- WITHOUT ROWID is among the options
unfoldable pub is_without_rowid : List Clause → Bool
is_without_rowid cs = list_any (λ c. is_without_rowid_rule c.rule) cs

unfoldable pub is_strict : List Clause → Bool
is_strict cs = list_any (λ c. is_strict_rule c.rule) cs

-- the first byte of a token, and the byte after its last; 0 past the last token
unfoldable pub begin_of : List Piece → (at : ℕ) → ℕ
begin_of ts at = option_map_or (λ p. p.from) (slice_get ts at) 0

unfoldable pub end_of : List Piece → (at : ℕ) → ℕ
end_of ts at = option_map_or (λ p. p.to) (slice_get ts at) 0

-- the bytes of a text between two places
unfoldable pub between : (text : List ℕ) → (from to : ℕ) → List ℕ
between text from to = take (to - from) (drop from text)

-- the words of a column's type, with what is between them
unfoldable pub written_type : (text : List ℕ) → List Piece → Column → List ℕ
written_type text ts column =
    between text (begin_of (drop column.name ts) 1) (end_of ts (column.type_end - 1))

-- a text without the blanks at both ends
unfoldable pub stripped : List ℕ → List ℕ
stripped s = drop (prefix_len is_blank (trimmed s)) (trimmed s)

-- What a DEFAULT clause gives, as PRAGMA table_info prints it: an expression without its parentheses and the blanks at both
-- ends, or the value.
unfoldable pub written_default : (text : List ℕ) → List Piece → Clause → List ℕ
written_default text ts c =
    let rest = drop c.from ts in
    if is_open rest 1 then stripped (between text (end_of rest 1) (begin_of ts (c.to - 1)))
    else between text (begin_of rest 1) (end_of ts (c.to - 1))

-- STORED is the last word of the clause
unfoldable pub is_stored : (text : List ℕ) → List Piece → Clause → Bool
is_stored text ts c = is_word text ts (c.to - 1) (codes "STORED")
