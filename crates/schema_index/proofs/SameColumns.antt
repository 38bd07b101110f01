-- Columns of two keys, compared one by one.
use Rattle.std.proofs.Common.{◌≡◌, ◌≢◌, ◌<◌, ◌+◌, ◌&&◌, ℕ, suc, false, List, [], ◌∷◌, drop, get_or, length, refl, ap, ◌∙◌}
use Rattle.std.proofs.lemmas.Bool.{and_right}
use Rattle.std.proofs.lemmas.List.{drop_more}
use Rattle.schema_tokens.specs.declared.kinds.Piece.{Piece}
use Rattle.schema_index.specs.KeyColumns.{same_column, same_columns}
use Rattle.schema_index.specs.declared.columns.KeyColumn.{KeyColumn}

pub other_length : (text : List ℕ) (ts : List Piece) (a b : List KeyColumn) → (length a ≢ length b) → same_columns text ts a b ≡ false
other_length text ts [] [] h = absurd (h refl)
other_length text ts [] (y ∷ b) h = refl
other_length text ts (x ∷ a) [] h = refl
other_length text ts (x ∷ a) (y ∷ b) h =
    let rest : length a ≢ length b = λ e. h (ap suc e) in
    and_right (same_column text ts x y) (same_columns text ts a b) (other_length text ts a b rest)

pub next_both : (text : List ℕ) (ts : List Piece) (a b : List KeyColumn) (n : ℕ) (x y : KeyColumn) → n < length a → n < length b
    → same_columns text ts (drop n a) (drop n b) ≡ (same_column text ts (get_or a n x) (get_or b n y) && same_columns text ts (drop (n + 1) a) (drop (n + 1) b))
next_both text ts a b n x y below within =
    ap (λ z. same_columns text ts z (drop n b)) (drop_more a n x below)
    ∙ ap (λ z. same_columns text ts (get_or a n x ∷ drop (n + 1) a) z) (drop_more b n y within)
