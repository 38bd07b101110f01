-- Which columns the keys of a table have (lang_createtable, 3.5; build.c, `sqlite3CreateIndex`).
use Rattle.std.specs.Prelude.{ℕ, ◌-◌, ◌==◌, ◌&&◌, Bool, true, false, if◌then◌else◌, List, [], ◌∷◌, drop, map, slice_get, codes, Option, Some, None}
use Rattle.std.specs.List.{position_or_len}
use Rattle.std.specs.Option.{option_or, option_map_or}
use Rattle.schema_tokens.specs.Keywords.{is_same_word}
use Rattle.schema_tokens.specs.declared.kinds.Piece.{Piece}
use Rattle.schema_print.specs.Statements.{is_word}
use Rattle.schema_columns.specs.Keys.{name_at, terms_of}
use Rattle.schema_text.specs.declared.clauses.Clause.{Clause}
use Rattle.schema_columns.specs.declared.columns.Column.{Column}
use Rattle.schema_columns.specs.declared.keys.Term.{Term}
use Rattle.schema_columns.specs.declared.keys.Key.{Key}
use Rattle.schema_index.specs.declared.columns.KeyColumn.{KeyColumn}

-- the collation that a COLLATE clause names; BINARY without one
unfoldable pub collation_name : (text : List ℕ) → List Piece → (collate : Option Clause) → List ℕ
collation_name text ts collate = option_map_or (λ c. name_at text (drop c.from ts) 1) collate (codes "BINARY")

-- the first column that has the name at this token; the number of columns, if none has it
unfoldable pub column_at : (text : List ℕ) → List Piece → List Column → (name : ℕ) → ℕ
column_at text ts columns name =
    position_or_len (λ c. is_same_word (name_at text ts name) (name_at text ts c.name)) columns

-- a column's COLLATE
unfoldable pub collate_of : List Column → (at : ℕ) → Option Clause
collate_of columns at = option_map_or (λ c. c.collate) (slice_get columns at) None

-- a column that a key names: its COLLATE is the key's, or else the column's
unfoldable pub term_column : (text : List ℕ) → List Piece → List Column → Term → KeyColumn
term_column text ts columns t =
    let n = column_at text ts columns t.name in
    record { column = n; collate = option_or t.collate (collate_of columns n); descends = t.descends }

-- the key is PRIMARY KEY DESC in a column's definition
unfoldable pub own_descends : (text : List ℕ) → List Piece → List Clause → Key → Bool
own_descends text ts cs key =
    option_map_or (λ c. key.primary && is_word text (drop c.from ts) 2 (codes "DESC")) (slice_get cs key.clause) false

-- the column whose definition has the key
unfoldable pub own_column : (text : List ℕ) → List Piece → List Column → List Clause → Key → KeyColumn
own_column text ts columns cs key = record {
  column = key.columns - 1;
  collate = collate_of columns (key.columns - 1);
  descends = own_descends text ts cs key;
}

-- the columns of a key in order
unfoldable pub key_columns : (text : List ℕ) → List Piece → List Column → List Clause → Key → List KeyColumn
key_columns text ts columns cs key =
    if key.own then own_column text ts columns cs key ∷ []
    else map (term_column text ts columns) (terms_of (drop 1 (drop key.clause cs)))

-- The same column under the same collation. The order doesn't matter.
unfoldable pub same_column : (text : List ℕ) → List Piece → (a b : KeyColumn) → Bool
same_column text ts a b =
    a.column == b.column && is_same_word (collation_name text ts a.collate) (collation_name text ts b.collate)

abbrev pub same_columns : (text : List ℕ) → List Piece → List KeyColumn → List KeyColumn → Bool
same_columns text ts [] [] = true
same_columns text ts [] (b ∷ bs) = false
same_columns text ts (a ∷ xs) [] = false
same_columns text ts (a ∷ xs) (b ∷ bs) = same_column text ts a b && same_columns text ts xs bs
