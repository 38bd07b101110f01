-- What the text of a table makes, as the kit states tables (lang_createtable; gencol).
use Rattle.std.specs.Prelude.{◌≡◌, ℕ, ◌&&◌, ◌||◌, Bool, true, false, not, if◌then◌else◌, nat_lt, List, [], ◌∷◌, ◌++◌, length, map, filter, slice_get, codes, Option, Some, None}
use Rattle.std.specs.List.{list_all, list_any, flat_map}
use Rattle.std.specs.Option.{is_some, option_map, option_map_or, option_and_then, option_to_list}
use Rattle.sqlite_ast.specs.declared.CreateTable.{CreateTable}
use Rattle.sqlite_ast.specs.declared.Keyed.{Keyed}
use Rattle.sqlite_ast.specs.declared.Rule.{Rule}
use Rattle.sqlite_ast.specs.declared.Rule.TheVariants.{NotNull, Default, Collate, PrimaryKey, DescendingKey, Unique}
use Rattle.sqlite_value.specs.declared.keys.Collation.{Collation}
use Rattle.sqlite_value.specs.declared.keys.Collation.TheVariants.{Binary, NoCase, RTrim}
use Rattle.schema_tokens.specs.Keywords.{is_same_word}
use Rattle.schema_tokens.specs.Pieces.{text_of}
use Rattle.schema_tokens.specs.declared.kinds.Piece.{Piece}
use Rattle.schema_print.specs.declared.heads.Head.{Head}
use Rattle.schema_text.specs.Texts.{IsTableText}
use Rattle.schema_text.specs.declared.clauses.Clause.{Clause}
use Rattle.schema_columns.specs.Columns.{columns_of, is_stored, is_strict, is_without_rowid, written_type}
use Rattle.schema_columns.specs.Keys.{name_at, keys_from, integer_key}
use Rattle.schema_columns.specs.declared.columns.Column.{Column}
use Rattle.schema_columns.specs.declared.keys.Key.{Key}
use Rattle.schema_index.specs.KeyColumns.{collation_name, key_columns}
use Rattle.schema_index.specs.Automatic.{is_indexed, integer_column}
use Rattle.schema_index.specs.declared.columns.KeyColumn.{KeyColumn}
use Rattle.schema_ast.specs.Types.{type_for}
use Rattle.schema_ast.specs.Defaults.{default_of}
use Rattle.schema_ast.specs.declared.tables.MadeTable.{MadeTable}

-- one of the collations that SQLite has by itself (datatype3, 7)
unfoldable pub collation_named : List ℕ → Option Collation
collation_named name =
    if is_same_word (codes "BINARY") name then Some Binary
    else (if is_same_word (codes "NOCASE") name then Some NoCase
    else (if is_same_word (codes "RTRIM") name then Some RTrim else None))

unfoldable pub collation_of : (text : List ℕ) → List Piece → (collate : Option Clause) → Option Collation
collation_of text ts collate = collation_named (collation_name text ts collate)

-- rows store the column: it isn't generated, or is STORED
unfoldable pub is_kept : (text : List ℕ) → List Piece → Column → Bool
is_kept text ts column = option_map_or (λ c. is_stored text ts c) column.generated true

-- one of the rowid's names, which a column of that name hides (lang_createtable, 5)
unfoldable pub is_rowid_name : List ℕ → Bool
is_rowid_name name =
    is_same_word (codes "rowid") name || is_same_word (codes "_rowid_") name || is_same_word (codes "oid") name

-- it is STORED, or generated and hides one of the rowid's names
unfoldable pub is_computed : (text : List ℕ) → List Piece → Column → Bool
is_computed text ts column =
    option_map_or (λ c. is_stored text ts c || is_rowid_name (name_at text ts column.name)) column.generated false

-- It is VIRTUAL, and NOT NULL or of a STRICT table: rows don't show whether its values keep to that.
unfoldable pub is_bound : (text : List ℕ) → List Piece → (strict : Bool) → Column → Bool
is_bound text ts strict column = not (is_kept text ts column) && (column.not_null || strict)

abbrev pub kept_columns : (text : List ℕ) → List Piece → List Clause → List Column
kept_columns text ts cs = filter (is_kept text ts) (columns_of cs)

-- a column's name and the word for its type
unfoldable pub column_for : (text : List ℕ) → List Piece → Column → List ℕ × List ℕ
column_for text ts column = (name_at text ts column.name, type_for (written_type text ts column))

-- what a column says of itself: NOT NULL, a collation that SQLite has, a default
unfoldable pub not_null_rule : (name : List ℕ) → Column → Option Rule
not_null_rule name column = if column.not_null then Some (NotNull name) else None

unfoldable pub collate_rule : (text : List ℕ) → List Piece → (name : List ℕ) → Column → Option Rule
collate_rule text ts name column = option_map (λ k. Collate name k) (option_and_then (λ c. collation_of text ts (Some c)) column.collate)

unfoldable pub default_rule : (text : List ℕ) → List Piece → (name : List ℕ) → Column → Option Rule
default_rule text ts name column = option_map (λ c. Default name (default_of text ts c)) column.default

unfoldable pub column_rules : (text : List ℕ) → List Piece → Column → List Rule
column_rules text ts column =
    let name = name_at text ts column.name in
    option_to_list (not_null_rule name column) ++ option_to_list (collate_rule text ts name column)
    ++ option_to_list (default_rule text ts name column)

-- the name of a column by its number; empty past the last
unfoldable pub column_name : (text : List ℕ) → List Piece → List Column → (at : ℕ) → List ℕ
column_name text ts columns at = option_map_or (λ c. name_at text ts c.name) (slice_get columns at) []

-- a column of a key, with its collation
unfoldable pub keyed_of : (text : List ℕ) → List Piece → List Column → KeyColumn → Keyed
keyed_of text ts columns k = record {
  name = column_name text ts columns k.column;
  collation = collation_of text ts k.collate;
  descending = k.descends;
}

-- The columns of a key. An INTEGER that is the PRIMARY KEY alone is under its own collation.
unfoldable pub columns_in : (text : List ℕ) → List Piece → List Column → List Clause → (integer : Option ℕ) → Key → List KeyColumn
columns_in text ts columns cs integer key =
    if is_indexed integer key then key_columns text ts columns cs key
    else map (integer_column columns cs) (option_to_list integer)

-- it is PRIMARY KEY DESC in a column's definition
unfoldable pub is_descending : Key → List KeyColumn → Bool
is_descending key columns = key.own && option_map_or (λ k. k.descends) (slice_get columns 0) false

abbrev pub rule_of : Key → List KeyColumn → List Keyed → Rule
rule_of key columns named =
    if not key.primary then Unique named
    else (if is_descending key columns then DescendingKey named else PrimaryKey named)

unfoldable pub key_rule : (text : List ℕ) → List Piece → List Column → List Clause → (integer : Option ℕ) → Key → Rule
key_rule text ts columns cs integer key =
    let found = columns_in text ts columns cs integer key in
    rule_of key found (map (keyed_of text ts columns) found)

abbrev pub key_rules : (text : List ℕ) → List Piece → List Clause → List Rule
key_rules text ts cs = map (key_rule text ts (columns_of cs) cs (integer_key text ts cs)) (keys_from 0 0 cs)

-- The table that the clauses make: the columns that rows store, what these say of themselves, and the keys.
unfoldable pub table_of : (text : List ℕ) → List Piece → Head → List Clause → CreateTable
table_of text ts head cs = record {
  if_missing = false;
  name = name_at text ts head.name;
  body = record {
    columns = map (column_for text ts) (kept_columns text ts cs);
    rules = flat_map (column_rules text ts) (kept_columns text ts cs) ++ key_rules text ts cs;
  };
  is_strict = is_strict cs;
  resolves = false;
}

-- a column of a key is one of the table's, under a collation that SQLite has
unfoldable pub is_known : (text : List ℕ) → List Piece → List Column → KeyColumn → Bool
is_known text ts columns k = nat_lt k.column (length columns) && is_some (collation_of text ts k.collate)

unfoldable pub is_known_key : (text : List ℕ) → List Piece → List Column → List Clause → (integer : Option ℕ) → Key → Bool
is_known_key text ts columns cs integer key =
    list_all (is_known text ts columns) (columns_in text ts columns cs integer key)

unfoldable pub is_collated : (text : List ℕ) → List Piece → Column → Bool
is_collated text ts column = is_some (collation_of text ts column.collate)

-- So are all columns of the table's keys, and each column is under such a collation.
unfoldable pub is_clear : (text : List ℕ) → List Piece → List Clause → Bool
is_clear text ts cs =
    list_all (is_collated text ts) (columns_of cs)
    && list_all (is_known_key text ts (columns_of cs) cs (integer_key text ts cs)) (keys_from 0 0 cs)

-- The first statement of these bytes is CREATE TABLE, and makes this table.
pub record MakesTable (bytes : List ℕ) (made : MadeTable) : Type 0 where
  pub tokens : List Piece
  pub head : Head
  pub clauses : List Clause
  pub statement : IsTableText bytes tokens head clauses
  pub without_rowid : made.without_rowid ≡ is_without_rowid clauses
  pub computed : made.computed ≡ list_any (is_computed (text_of bytes) tokens) (columns_of clauses)
  pub bound : made.bound ≡ list_any (is_bound (text_of bytes) tokens (is_strict clauses)) (columns_of clauses)
  pub clear : made.clear ≡ is_clear (text_of bytes) tokens clauses
  pub def : made.def ≡ table_of (text_of bytes) tokens head clauses
