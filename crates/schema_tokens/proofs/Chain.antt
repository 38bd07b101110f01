-- Readings: a piece more, and that there is one alone.
use Rattle.std.proofs.Common.{◌≡◌, ℕ, ◌<◌, ◌+◌, List, [], ◌∷◌, ◌++◌, drop, Option, Some, None, refl, sym, subst, ap, ◌∙◌}
use Rattle.schema_tokens.specs.Forms.{form}
use Rattle.schema_tokens.specs.Pieces.{IsPieceAt, ArePieces, IsReading, IsOnlyReading, text_of}
use Rattle.schema_tokens.specs.declared.kinds.Kind.{Kind}
use Rattle.schema_tokens.specs.declared.kinds.Kind.TheVariants.{Blanks}
use Rattle.schema_tokens.specs.declared.kinds.Form.{Form}
use Rattle.schema_tokens.specs.declared.kinds.Piece.{Piece}

pub one_more : (text : List ℕ) (from : ℕ) (ps : List Piece) (at : ℕ) (p : Piece) → ArePieces text from ps at → at < p.to → IsPieceAt text at p → ArePieces text from (ps ++ p ∷ []) p.to
one_more text from [] at p h lt is = let at_from : at ≡ from = sym h in subst (λ x. ArePieces text x (p ∷ []) p.to) at_from (lt, is, refl)
one_more text from (q ∷ ps) at p h lt is = (h.0, h.1, one_more text q.to ps at p h.2 lt is)

abbrev kind_of : Option Form → Kind
kind_of None = Blanks
kind_of (Some f) = f.kind

abbrev length_of : Option Form → ℕ
length_of None = 0
length_of (Some f) = f.length

-- one place has one piece
same_piece : (text : List ℕ) (at : ℕ) (p q : Piece) → IsPieceAt text at p → IsPieceAt text at q → p ≡ q
same_piece text at p q h k =
    let forms : Some (record { kind = p.kind; length = h.length }) ≡ Some (record { kind = q.kind; length = k.length }) = sym h.is_form ∙ k.is_form in
    let kinds : p.kind ≡ q.kind = ap kind_of forms in
    let lengths : h.length ≡ k.length = ap length_of forms in
    let ends : p.to ≡ q.to = h.ends ∙ ap (λ n. at + n) lengths ∙ sym k.ends in
    let begins : p.from ≡ q.from = h.begins ∙ sym k.begins in
    ap (λ x. let r : Piece = record { kind = x; from = p.from; to = p.to } in r) kinds
    ∙ ap (λ x. let r : Piece = record { kind = q.kind; from = x; to = p.to } in r) begins
    ∙ ap (λ x. let r : Piece = record { kind = q.kind; from = q.from; to = x } in r) ends

no_piece : (text : List ℕ) (at : ℕ) (p : Piece) → IsPieceAt text at p → form (drop at text) ≡ None → ⊥
no_piece text at p h none = let clash : ◌≡◌ {A = Option Form} (Some (record { kind = p.kind; length = h.length })) None = sym h.is_form ∙ none in cc

same_pieces : (text : List ℕ) (from : ℕ) (ps : List Piece) (to : ℕ) (qs : List Piece) (end : ℕ) → ArePieces text from ps to → form (drop to text) ≡ None → ArePieces text from qs end → form (drop end text) ≡ None → (ps ≡ qs) × (to ≡ end)
same_pieces text from [] to [] end h none k none' = (refl, sym h ∙ k)
same_pieces text from [] to (q ∷ qs) end h none k none' = absurd (no_piece text from q k.1 (subst (λ x. form (drop x text) ≡ None) (sym h) none))
same_pieces text from (p ∷ ps) to [] end h none k none' = absurd (no_piece text from p h.1 (subst (λ x. form (drop x text) ≡ None) (sym k) none'))
same_pieces text from (p ∷ ps) to (q ∷ qs) end h none k none' =
    let first = same_piece text from p q h.1 k.1 in
    let left = subst (λ x. ArePieces text x qs end) (ap (λ (r : Piece). r.to) (sym first)) k.2 in
    let rest = same_pieces text p.to ps to qs end h.2 none left none' in
    (ap (λ x. x ∷ ps) first ∙ ap (λ xs. q ∷ xs) rest.0, rest.1)

pub only : (bytes : List ℕ) (ps : List Piece) (end : ℕ) → IsReading bytes ps end → IsOnlyReading bytes ps end
only bytes ps end h qs to k = same_pieces (text_of bytes) 0 qs to ps end k.pieces k.stops h.pieces h.stops
