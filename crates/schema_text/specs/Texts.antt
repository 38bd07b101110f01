-- A text of a schema as SQLite's loader reads it: its first statement (prepare.c, `sqlite3InitCallback`).
use Rattle.std.specs.Prelude.{◌≡◌, ℕ, ◌==◌, ◌||◌, Bool, true, false, List, length, filter, slice_get, Option, Some, None}
use Rattle.std.specs.List.{list_any}
use Rattle.std.specs.Option.{option_map_or}
use Rattle.schema_tokens.specs.Pieces.{text_of, is_token, IsReading}
use Rattle.schema_tokens.specs.declared.kinds.Piece.{Piece}
use Rattle.schema_print.specs.declared.heads.Head.{Head}
use Rattle.schema_text.specs.Kinds.{is_semicolon_kind}
use Rattle.schema_text.specs.Clauses.{first_statement, IsTable}
use Rattle.schema_text.specs.declared.clauses.Clause.{Clause}
use Rattle.schema_text.specs.declared.texts.TableText.{TableText}

-- the first token is the first byte
unfoldable pub begins_text : List Piece → Bool
begins_text ts = option_map_or (λ p. p.from == 0) (slice_get ts 0) false

-- A `;` ends the first statement, or the text is read to its end.
unfoldable pub is_ended : (bytes : List ℕ) → (all : List Piece) → (end : ℕ) → Bool
is_ended bytes all end = list_any (λ p. is_semicolon_kind p.kind) all || end == length (text_of bytes)

-- These are the tokens of the first statement of a text, which begins with its first byte. What follows its `;` isn't
-- judged.
pub record IsStatement (bytes : List ℕ) (ts : List Piece) : Type 0 where
  pub pieces : List Piece
  pub end : ℕ
  pub is_reading : IsReading bytes pieces end
  pub tokens : ts ≡ first_statement (filter is_token pieces)
  pub begins : begins_text ts ≡ true
  pub ends : is_ended bytes (filter is_token pieces) end ≡ true

-- an answer is this statement
abbrev pub IsStatementHeld : List Piece → Option (List Piece) → Type 0
IsStatementHeld ts None = ⊥
IsStatementHeld ts (Some answer) = answer ≡ ts

-- the first statement of these bytes is CREATE TABLE, with these tokens and clauses
pub record IsTableText (bytes : List ℕ) (ts : List Piece) (head : Head) (cs : List Clause) : Type 0 where
  pub statement : IsStatement bytes ts
  pub is_table : IsTable (text_of bytes) ts head cs

-- the answer is this statement
abbrev pub IsAnswered : List Piece → Head → List Clause → Option TableText → Type 0
IsAnswered ts head cs None = ⊥
IsAnswered ts head cs (Some t) = (t.tokens.items ≡ ts) × (t.table.head ≡ head) × (t.table.clauses.items ≡ cs)
