-- A text as tokens and spaces, one after another (tokenize.c, `sqlite3RunParser`).
use Rattle.std.specs.Prelude.{◌≡◌, ℕ, ◌+◌, ◌<◌, ◌==◌, Bool, true, false, not, List, [], ◌∷◌, drop, take_while, Some, None}
use Rattle.schema_tokens.specs.Forms.{form}
use Rattle.schema_tokens.specs.declared.kinds.Kind.{Kind}
use Rattle.schema_tokens.specs.declared.kinds.Kind.TheVariants.{Blanks, ByteOrderMark, LineComment, BlockComment}
use Rattle.schema_tokens.specs.declared.kinds.Piece.{Piece}

-- a text ends at its first NUL
unfoldable pub text_of : List ℕ → List ℕ
text_of bytes = take_while (λ b. not (b == 0)) bytes

-- p begins at this place, is of the form that the text has there, and is as long
pub record IsPieceAt (text : List ℕ) (at : ℕ) (p : Piece) : Type 0 where
  pub begins : p.from ≡ at
  pub length : ℕ
  pub ends : p.to ≡ at + length
  pub is_form : form (drop at text) ≡ Some (record { kind = p.kind; length = length })

-- from this place up to another, each piece begins at the end of the one before
abbrev pub ArePieces : (text : List ℕ) (from : ℕ) → List Piece → (to : ℕ) → Type 0
ArePieces text from [] to = from ≡ to
ArePieces text from (p ∷ ps) to = (from < p.to) × IsPieceAt text from p × ArePieces text p.to ps to

-- All pieces from the text's first byte on, up to where no form begins.
pub record IsReading (bytes : List ℕ) (ps : List Piece) (end : ℕ) : Type 0 where
  pub pieces : ArePieces (text_of bytes) 0 ps end
  pub stops : form (drop end (text_of bytes)) ≡ None

-- no other pieces are a reading of these bytes
abbrev pub IsOnlyReading : (bytes : List ℕ) → List Piece → (end : ℕ) → Type 0
IsOnlyReading bytes ps end = (qs : List Piece) (to : ℕ) → IsReading bytes qs to → (qs ≡ ps) × (to ≡ end)

-- no blank, comment or byte order mark
abbrev pub is_token : Piece → Bool
is_token p = is_token_kind p.kind
  where
    is_token_kind : Kind → Bool
    is_token_kind Blanks = false
    is_token_kind ByteOrderMark = false
    is_token_kind LineComment = false
    is_token_kind BlockComment = false
    is_token_kind _ = true
