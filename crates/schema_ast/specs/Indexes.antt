-- What the text of an index makes, as the kit states indexes (lang_createindex).
use Rattle.std.specs.Prelude.{◌≡◌, ℕ, Bool, false, List, [], ◌∷◌, map, Option, Some, None}
use Rattle.std.specs.Option.{is_some, option_map, option_and_then}
use Rattle.sqlite_ast.specs.declared.CreateIndex.{CreateIndex}
use Rattle.sqlite_ast.specs.declared.Keyed.{Keyed}
use Rattle.schema_tokens.specs.Pieces.{text_of}
use Rattle.schema_tokens.specs.declared.kinds.Piece.{Piece}
use Rattle.schema_columns.specs.Keys.{name_at}
use Rattle.schema_index.specs.Terms.{index_terms}
use Rattle.schema_index.specs.Texts.{IsIndexText}
use Rattle.schema_index.specs.declared.create.Index.{Index}
use Rattle.schema_index.specs.declared.terms.IndexTerm.{IndexTerm}
use Rattle.schema_ast.specs.Tables.{collation_named}
use Rattle.schema_ast.specs.declared.indexes.MadeIndex.{MadeIndex}

-- a column of an index; none under a collation that SQLite doesn't have by itself
abbrev pub keyed_under : (text : List ℕ) → List Piece → (name : List ℕ) → (descends : Bool) → (collation : Option ℕ) → Option Keyed
keyed_under text ts name descends None = Some (record { name = name; collation = None; descending = descends })
keyed_under text ts name descends (Some at) =
    option_map (λ k. record { name = name; collation = Some k; descending = descends }) (collation_named (name_at text ts at))

-- a term of an index that is a column; none of an expression
unfoldable pub keyed_in : (text : List ℕ) → List Piece → IndexTerm → Option Keyed
keyed_in text ts t = option_and_then (λ at. keyed_under text ts (name_at text ts at) t.descends t.collation) t.name

-- what all of them have, if each has something
abbrev pub all_of : List (Option Keyed) → Option (List Keyed)
all_of [] = Some []
all_of (None ∷ xs) = None
all_of (Some x ∷ xs) = option_map (λ r. x ∷ r) (all_of xs)

-- the index over these columns
unfoldable pub index_over : (text : List ℕ) → List Piece → Index → List Keyed → CreateIndex
index_over text ts i columns = record {
  is_unique = i.unique;
  if_missing = false;
  name = name_at text ts i.head.name;
  table = name_at text ts i.table;
  columns = columns;
}

-- The first statement of these bytes is CREATE INDEX, its terms are columns, and it makes this index.
pub record MakesIndex (bytes : List ℕ) (made : MadeIndex) : Type 0 where
  pub tokens : List Piece
  pub index : Index
  pub columns : List Keyed
  pub statement : IsIndexText bytes tokens index
  pub plain : all_of (map (keyed_in (text_of bytes) tokens) (index_terms (text_of bytes) tokens index)) ≡ Some columns
  pub partial : made.partial ≡ is_some index.condition
  pub def : made.def ≡ index_over (text_of bytes) tokens index columns
