-- A text has one reading, and so one first statement.
use Rattle.std.proofs.Common.{◌≡◌, ℕ, List, filter, ap, ◌∙◌}
use Rattle.schema_tokens.specs.Pieces.{is_token, IsOnlyReading}
use Rattle.schema_tokens.specs.declared.kinds.Piece.{Piece}
use Rattle.schema_text.specs.Clauses.{first_statement}
use Rattle.schema_text.specs.Texts.{IsStatement}

pub same_tokens : (bytes : List ℕ) (ps : List Piece) (end : ℕ) (ts : List Piece) → IsOnlyReading bytes ps end → IsStatement bytes ts → ts ≡ first_statement (filter is_token ps)
same_tokens bytes ps end ts only k =
    let same = only k.pieces k.end k.is_reading in
    k.tokens ∙ ap (λ (qs : List Piece). first_statement (filter is_token qs)) same.0
