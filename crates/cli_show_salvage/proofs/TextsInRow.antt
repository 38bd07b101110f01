-- Texts of numbers in a row, one more at the end.
use Rattle.std.proofs.Common.{◌≡◌, ◌∙◌, ◌+◌, ◌++◌, ◌∷◌, [], ℕ, List, Option, ap, ap₂, sym, subst, map}
use Rattle.std.proofs.KnownBytes.{Appends-trans}
use Rattle.std.proofs.lemmas.List.{append-nil}
use Rattle.std.proofs.lemmas.List.Concat.{flat_map-append}
use Rattle.std.proofs.lemmas.List.Folds.{flat_map-map}
use Rattle.std.proofs.lemmas.List.FromFn.{map-range_with_len_more}
use Rattle.std.specs.Io.KnownBytes.{Appends}
use Rattle.std.specs.List.{flat_map, range_with_len}

pub texts_more : (f : ℕ → List ℕ) (a n j : ℕ) → a + n ≡ j → flat_map f (range_with_len a (n + 1)) ≡ flat_map f (range_with_len a n) ++ f j
texts_more f a n j e =
    sym (flat_map-map (λ x. x) f (range_with_len a (n + 1))) ∙ ap (flat_map (λ x. x)) (map-range_with_len_more f a n j e)
    ∙ flat_map-append (λ x. x) (map f (range_with_len a n)) (f j ∷ []) ∙ ap₂ ◌++◌ (flat_map-map (λ x. x) f (range_with_len a n)) (append-nil (f j))

pub appends_more : (f : ℕ → List ℕ) (a n j : ℕ) (before mid after : Option (List ℕ)) → a + n ≡ j → Appends before mid (flat_map f (range_with_len a n)) → Appends mid after (f j)
    → Appends before after (flat_map f (range_with_len a (n + 1)))
appends_more f a n j before mid after e front last =
    subst (λ (bs : List ℕ). Appends before after bs) (sym (texts_more f a n j e)) (Appends-trans before mid after (flat_map f (range_with_len a n)) (f j) front last)
