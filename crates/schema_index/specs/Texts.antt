-- A text of a schema whose first statement is CREATE INDEX (prepare.c, `sqlite3InitCallback`).
use Rattle.std.specs.Prelude.{◌≡◌, ℕ, List, Option, Some, None}
use Rattle.schema_tokens.specs.Pieces.{text_of}
use Rattle.schema_tokens.specs.declared.kinds.Piece.{Piece}
use Rattle.schema_text.specs.Texts.{IsStatement}
use Rattle.schema_index.specs.Create.{index_of}
use Rattle.schema_index.specs.declared.create.Index.{Index}
use Rattle.schema_index.specs.declared.create.IndexText.{IndexText}

pub record IsIndexText (bytes : List ℕ) (ts : List Piece) (index : Index) : Type 0 where
  pub statement : IsStatement bytes ts
  pub is_index : index_of (text_of bytes) ts ≡ Some index

-- the answer is this statement
abbrev pub IsIndexHeld : List Piece → Index → Option IndexText → Type 0
IsIndexHeld ts index None = ⊥
IsIndexHeld ts index (Some t) = (t.tokens.items ≡ ts) × (t.index ≡ index)
