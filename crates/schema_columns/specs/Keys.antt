-- The keys of a table: PRIMARY KEY and UNIQUE (lang_createtable, 3.5 and 5; rowidtable).
use Rattle.std.specs.Prelude.{ℕ, ◌+◌, ◌==◌, ◌||◌, ◌&&◌, Bool, true, false, not, if◌then◌else◌, List, [], ◌∷◌, length, drop, take_while, slice_get, codes, Option, Some, None}
use Rattle.std.specs.List.{list_any, position_or_len}
use Rattle.std.specs.Option.{option_map_or}
use Rattle.schema_tokens.specs.Keywords.{is_same_word}
use Rattle.schema_tokens.specs.declared.kinds.Piece.{Piece}
use Rattle.schema_print.specs.Names.{name_of}
use Rattle.schema_print.specs.Statements.{bytes_of, is_word}
use Rattle.schema_columns.specs.Types.{without_generated, without_quotes}
use Rattle.schema_columns.specs.Columns.{is_column_rule, last_of, columns_of, is_without_rowid, written_type}
use Rattle.schema_text.specs.declared.clauses.Rule.{Rule}
use Rattle.schema_text.specs.declared.clauses.Rule.TheVariants as rules
use Rattle.schema_text.specs.declared.clauses.Clause.{Clause}
use Rattle.schema_columns.specs.declared.columns.Column.{Column}
use Rattle.schema_columns.specs.declared.columns.Wanted.TheVariants as wanted
use Rattle.schema_columns.specs.declared.keys.Term.{Term}
use Rattle.schema_columns.specs.declared.keys.Key.{Key}

abbrev pub is_term_rule : Rule → Bool
is_term_rule rules.Term = true
is_term_rule _ = false

abbrev pub is_descending_rule : Rule → Bool
is_descending_rule rules.TermDescends = true
is_descending_rule _ = false

abbrev pub is_key_end_rule : Rule → Bool
is_key_end_rule rules.KeyEnd = true
is_key_end_rule _ = false

-- what ends a term of a key
abbrev pub is_term_end_rule : Rule → Bool
is_term_end_rule rules.TermComma = true
is_term_end_rule rules.KeyEnd = true
is_term_end_rule _ = false

abbrev pub is_primary_rule : Rule → Bool
is_primary_rule rules.PrimaryKey = true
is_primary_rule rules.TablePrimaryKey = true
is_primary_rule _ = false

-- a key of one column, in its definition
abbrev pub is_own_rule : Rule → Bool
is_own_rule rules.PrimaryKey = true
is_own_rule rules.Unique = true
is_own_rule _ = false

abbrev pub is_table_key_rule : Rule → Bool
is_table_key_rule rules.TablePrimaryKey = true
is_table_key_rule rules.TableUnique = true
is_table_key_rule _ = false

-- the clauses of a term, up to the next comma or the key's end
unfoldable pub own_of_term : List Clause → List Clause
own_of_term cs = take_while (λ c. not (is_term_end_rule c.rule)) cs

unfoldable pub term_of : (name : Clause) (own : List Clause) → Term
term_of name own = record {
  name = name.from;
  collate = last_of wanted.TermCollate own;
  descends = list_any (λ c. is_descending_rule c.rule) own;
}

-- the terms among clauses, each with those up to the next comma or the key's end
abbrev pub all_terms : List Clause → List Term
all_terms [] = []
all_terms (c ∷ cs) = if is_term_rule c.rule then term_of c (own_of_term cs) ∷ all_terms cs else all_terms cs

-- the terms of the key whose first clause is before these
unfoldable pub terms_of : List Clause → List Term
terms_of cs = all_terms (take_while (λ c. not (is_key_end_rule c.rule)) cs)

-- The keys in the order of the text; so many columns and clauses are before these clauses.
abbrev pub keys_from : (columns at : ℕ) → List Clause → List Key
keys_from columns at [] = []
keys_from columns at (c ∷ cs) =
    if is_column_rule c.rule then keys_from (columns + 1) (at + 1) cs
    else (if is_own_rule c.rule || is_table_key_rule c.rule
    then record { primary = is_primary_rule c.rule; own = is_own_rule c.rule; columns = columns; clause = at } ∷ keys_from columns (at + 1) cs
    else keys_from columns (at + 1) cs)

-- the terms of the table's first PRIMARY KEY that isn't in a column
abbrev pub primary_terms : List Clause → List Term
primary_terms [] = []
primary_terms (c ∷ cs) =
    if is_primary_rule c.rule && is_table_key_rule c.rule then terms_of cs else primary_terms cs

-- the name that a token is; none past the last
unfoldable pub name_at : (text : List ℕ) → List Piece → (at : ℕ) → List ℕ
name_at text ts at = option_map_or (λ p. name_of (bytes_of text p)) (slice_get ts at) []

-- its type is INTEGER, and no other that contains INT
unfoldable pub is_integer : (text : List ℕ) → List Piece → Column → Bool
is_integer text ts column =
    is_same_word (codes "INTEGER") (without_quotes (without_generated (written_type text ts column)))

-- PRIMARY KEY is in the column's definition, and isn't DESC
unfoldable pub is_own_key : (text : List ℕ) → List Piece → Column → Bool
is_own_key text ts column =
    option_map_or (λ c. not (is_word text (drop c.from ts) 2 (codes "DESC"))) column.primary false

-- the key has one term, and names the column; ASC, DESC and COLLATE don't matter
unfoldable pub is_only_term : (text : List ℕ) → List Piece → List Term → Column → Bool
is_only_term text ts terms column =
    length terms == 1
    && option_map_or (λ t. is_same_word (name_at text ts t.name) (name_at text ts column.name)) (slice_get terms 0) false

unfoldable pub may_be_rowid : (text : List ℕ) → List Piece → List Term → Column → Bool
may_be_rowid text ts terms column =
    is_integer text ts column && (is_own_key text ts column || is_only_term text ts terms column)

-- Which column is the PRIMARY KEY alone and has the type INTEGER: the first, if there is one.
unfoldable pub integer_key : (text : List ℕ) → List Piece → List Clause → Option ℕ
integer_key text ts cs =
    let n = position_or_len (λ c. may_be_rowid text ts (primary_terms cs) c) (columns_of cs) in
    if n == length (columns_of cs) then None else Some n

-- Which column is the rowid's alias: that one. A table WITHOUT ROWID has none.
unfoldable pub rowid_of : (text : List ℕ) → List Piece → List Clause → Option ℕ
rowid_of text ts cs = if is_without_rowid cs then None else integer_key text ts cs
