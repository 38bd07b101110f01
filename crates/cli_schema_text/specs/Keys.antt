-- Which texts of tables count their keys (lang_createtable, "The AUTOINCREMENT keyword"; fileformat2, 2.6.2).
use Rattle.std.specs.Prelude.{◌≡◌, ℕ, ◌&&◌, Bool, List, codes}
use Rattle.std.specs.List.{list_any}
use Rattle.schema_tokens.specs.Keywords.{is_same_word}
use Rattle.schema_tokens.specs.Pieces.{is_token, IsReading}
use Rattle.schema_tokens.specs.declared.kinds.Piece.{Piece}
use Rattle.schema_print.specs.Statements.{bytes_of}

-- the keyword, in any case and without quotes
abbrev pub is_counting : (text : List ℕ) → Piece → Bool
is_counting text p = is_token p && is_same_word (codes "AUTOINCREMENT") (bytes_of text p)

-- Whether a token of a text is the keyword.
pub record CountsKeys (text : List ℕ) (counts : Bool) : Type 0 where
  pub pieces : List Piece
  pub end : ℕ
  pub reading : IsReading text pieces end
  pub some : counts ≡ list_any (λ p. is_counting text p) pieces
