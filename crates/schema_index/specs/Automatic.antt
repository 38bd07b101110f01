-- The indexes that SQLite makes of a table's keys by itself (lang_createtable, 3.5; build.c, `sqlite3CreateIndex`,
-- `convertToWithoutRowidTable`).
use Rattle.std.specs.Prelude.{ℕ, ◌++◌, ◌&&◌, Bool, not, if◌then◌else◌, List, [], ◌∷◌, map, filter, slice_get, codes, decimal, Option, Some, None, false}
use Rattle.std.specs.List.{list_any, fold}
use Rattle.std.specs.Option.{is_some, option_map_or, option_to_list}
use Rattle.schema_tokens.specs.declared.kinds.Piece.{Piece}
use Rattle.schema_columns.specs.Columns.{columns_of, is_without_rowid}
use Rattle.schema_columns.specs.Keys.{keys_from, primary_terms, integer_key}
use Rattle.schema_text.specs.declared.clauses.Clause.{Clause}
use Rattle.schema_columns.specs.declared.columns.Column.{Column}
use Rattle.schema_columns.specs.declared.keys.Key.{Key}
use Rattle.schema_index.specs.KeyColumns.{collate_of, key_columns, same_columns}
use Rattle.schema_index.specs.declared.columns.KeyColumn.{KeyColumn}

-- A key gets an index where the text has it, except a PRIMARY KEY of one INTEGER.
abbrev pub is_indexed : (integer : Option ℕ) → Key → Bool
is_indexed integer key = not (key.primary && is_some integer)

-- that INTEGER, under its own collation whatever the key says
unfoldable pub integer_column : List Column → List Clause → (column : ℕ) → KeyColumn
integer_column columns cs column = record {
  column = column;
  collate = collate_of columns column;
  descends = option_map_or (λ t. t.descends) (slice_get (primary_terms cs) 0) false;
}

-- The columns of all keys that get an index, in order. In a table WITHOUT ROWID a PRIMARY KEY of one INTEGER is the last.
unfoldable pub indexed_keys : (text : List ℕ) → List Piece → List Clause → List (List KeyColumn)
indexed_keys text ts cs =
    let integer = integer_key text ts cs in
    map (key_columns text ts (columns_of cs) cs) (filter (is_indexed integer) (keys_from 0 0 cs))
    ++ map (λ n. integer_column (columns_of cs) cs n ∷ []) (option_to_list (if is_without_rowid cs then integer else None))

-- indexes and one more, unless one of them has the same columns
unfoldable pub with_index : (text : List ℕ) → List Piece → List (List KeyColumn) → List KeyColumn → List (List KeyColumn)
with_index text ts indexes key = if list_any (same_columns text ts key) indexes then indexes else indexes ++ (key ∷ [])

-- The columns of a table's automatic indexes, in the order in which SQLite makes them. In a table WITHOUT ROWID the index
-- of its PRIMARY KEY, which is the table itself, is among them.
unfoldable pub automatic_indexes : (text : List ℕ) → List Piece → List Clause → List (List KeyColumn)
automatic_indexes text ts cs = fold (with_index text ts) [] (indexed_keys text ts cs)

-- the name of a table's automatic index; the first has the number 1
unfoldable pub index_name : (table : List ℕ) → (number : ℕ) → List ℕ
index_name table number = codes "sqlite_autoindex_" ++ table ++ codes "_" ++ decimal number
