-- The members of a list, one token on.
use Rattle.std.proofs.Common.{◌≡◌, ◌<◌, ◌+◌, ◌==◌, ◌&&◌, ℕ, true, false, List, ◌∷◌, drop, get_or, length, refl, ap, ◌∙◌, arith}
use Rattle.std.proofs.lemmas.List.{drop_more}
use Rattle.schema_tokens.specs.declared.kinds.Piece.{Piece}
use Rattle.schema_print.specs.Printable.{deeper}
use Rattle.schema_text.specs.Kinds.{is_comma_kind}
use Rattle.schema_index.specs.Terms.{extents}
use Rattle.schema_index.specs.declared.terms.Extent.{Extent}

cut : (start at depth : ℕ) (p : Piece) (ts : List Piece) → (is_comma_kind p.kind && depth == 0) ≡ true
    → extents start at depth (p ∷ ts) ≡ record { from = start; to = at } ∷ extents (at + 1) (at + 1) 0 ts
cut start at depth p ts comma = rw comma refl

goes : (start at depth : ℕ) (p : Piece) (ts : List Piece) → (is_comma_kind p.kind && depth == 0) ≡ false
    → extents start at depth (p ∷ ts) ≡ extents start (at + 1) (deeper p.kind depth) ts
goes start at depth p ts other = rw other refl

-- a member ends at the next token
pub cut_here : (start from n depth : ℕ) (ts : List Piece) (x : Piece) → n < length ts → (is_comma_kind (get_or ts n x).kind && depth == 0) ≡ true
    → extents start (from + n) depth (drop n ts) ≡ record { from = start; to = from + n } ∷ extents (from + n + 1) (from + (n + 1)) 0 (drop (n + 1) ts)
cut_here start from n depth ts x within comma =
    let next : from + n + 1 ≡ from + (n + 1) = omega arith in
    let member : Extent = record { from = start; to = from + n } in
    ap (extents start (from + n) depth) (drop_more ts n x within)
    ∙ cut start (from + n) depth (get_or ts n x) (drop (n + 1) ts) comma
    ∙ ap (λ z. member ∷ extents (from + n + 1) z 0 (drop (n + 1) ts)) next

-- it goes on with the next token
pub goes_on : (start from n depth : ℕ) (ts : List Piece) (x : Piece) → n < length ts → (is_comma_kind (get_or ts n x).kind && depth == 0) ≡ false
    → extents start (from + n) depth (drop n ts) ≡ extents start (from + (n + 1)) (deeper (get_or ts n x).kind depth) (drop (n + 1) ts)
goes_on start from n depth ts x within other =
    let next : from + n + 1 ≡ from + (n + 1) = omega arith in
    ap (extents start (from + n) depth) (drop_more ts n x within)
    ∙ goes start (from + n) depth (get_or ts n x) (drop (n + 1) ts) other
    ∙ ap (λ z. extents start z (deeper (get_or ts n x).kind depth) (drop (n + 1) ts)) next
