-- Tables of names whose changes are printed one by one.
use Rattle.std.proofs.Common.{◌≡◌, ◌<◌, ◌+◌, List, [], ◌∷◌, ◌++◌, Bor, Option, ℕ, length, take, get_or, refl, sym, ap, ◌∙◌, subst, add-one}
use Rattle.std.specs.Prelude.{Some, slice_get, option_map}
use Rattle.std.proofs.Math.Seq.{take-suc}
use Rattle.std.proofs.lemmas.List.{map-append, take-map}
use Rattle.std.proofs.lemmas.Option.{slice_get-map, slice_get-get_or}
use Rattle.sqval.specs.Database.{Database}
use Rattle.cli_show_diff.specs.declared.changes.Schemas.{Schemas}
use Rattle.cli_show_diff.specs.declared.form.ChangeForm.{ChangeForm}
use Rattle.cli_show_diff.specs.Changes.{AreNamedPrinted, IsNamedPrinted, texts_of}

module _ (d e : Database) (schemas : Schemas) (form : ChangeForm) where
  -- one more
  names_snoc : (names : List (List ℕ)) (name : List ℕ) (before mid after : Option (List ℕ))
      → AreNamedPrinted d e schemas names form before mid → IsNamedPrinted d e schemas name form mid after
      → AreNamedPrinted d e schemas (names ++ name ∷ []) form before after
  names_snoc [] name before mid after are is =
      (after, subst (λ (b : Option (List ℕ)). IsNamedPrinted d e schemas name form b after) (sym are) is, refl)
  names_snoc (x ∷ names) name before mid after are is = (are.0, are.1, names_snoc names name are.0 mid after are.2 is)

  -- the same of the first names of a list
  pub names_more : (names : List (Bor (List ℕ))) (i : ℕ) (x : Bor (List ℕ)) (before mid after : Option (List ℕ)) → i < length names
      → AreNamedPrinted d e schemas (texts_of (take i names)) form before mid → IsNamedPrinted d e schemas (get_or names i x).now form mid after
      → AreNamedPrinted d e schemas (texts_of (take (i + 1) names)) form before after
  names_more names i x before mid after within are is =
      let more : take (i + 1) names ≡ take i names ++ get_or names i x ∷ [] = ap (λ n. take n names) (add-one i) ∙ take-suc names i x within in
      let texts : texts_of (take (i + 1) names) ≡ texts_of (take i names) ++ (get_or names i x).now ∷ [] =
      ap texts_of more ∙ map-append (λ (n : Bor (List ℕ)). n.now) (take i names) (get_or names i x ∷ []) in
      subst (λ (ns : List (List ℕ)). AreNamedPrinted d e schemas ns form before after) (sym texts)
      (names_snoc (texts_of (take i names)) (get_or names i x).now before mid after are is)

  -- and their texts
  pub first_texts : (names : List (Bor (List ℕ))) (i : ℕ) (before after : Option (List ℕ))
      → AreNamedPrinted d e schemas (texts_of (take i names)) form before after → AreNamedPrinted d e schemas (take i (texts_of names)) form before after
  first_texts names i before after are =
      subst (λ (ns : List (List ℕ)). AreNamedPrinted d e schemas ns form before after) (sym (take-map (λ (n : Bor (List ℕ)). n.now) i names)) are

-- name i of a list
pub text_at : (names : List (Bor (List ℕ))) (i : ℕ) (x : Bor (List ℕ)) → i < length names → slice_get (texts_of names) i ≡ Some (get_or names i x).now
text_at names i x within =
    slice_get-map (λ (n : Bor (List ℕ)). n.now) names i ∙ ap (option_map (λ (n : Bor (List ℕ)). n.now)) (slice_get-get_or names i x within)
