-- The columns of an index, one term on.
use Rattle.std.proofs.Common.{◌≡◌, ◌<◌, ◌+◌, ◌++◌, ℕ, List, [], ◌∷◌, Option, Some, None, drop, get_or, length, map, refl, sym, ap, ◌∙◌, append_assoc, option_map}
use Rattle.std.proofs.lemmas.List.{drop_more}
use Rattle.sqlite_ast.specs.declared.Keyed.{Keyed}
use Rattle.schema_index.specs.declared.terms.IndexTerm.{IndexTerm}
use Rattle.schema_ast.specs.Indexes.{all_of}

onto : (before : List Keyed) (k : Keyed) (rest : Option (List Keyed)) → option_map (λ r. before ++ r) (option_map (λ r. k ∷ r) rest) ≡ option_map (λ r. (before ++ k ∷ []) ++ r) rest
onto before k None = refl
onto before k (Some r) = ap Some (sym (append_assoc before (k ∷ []) r))

-- the next term is a column
pub one_more : (f : IndexTerm → Option Keyed) (terms : List IndexTerm) (n : ℕ) (x : IndexTerm) (before : List Keyed) (k : Keyed) → n < length terms → f (get_or terms n x) ≡ Some k
    → option_map (λ r. before ++ r) (all_of (map f (drop n terms))) ≡ option_map (λ r. (before ++ k ∷ []) ++ r) (all_of (map f (drop (n + 1) terms)))
one_more f terms n x before k within found =
    ap (λ z. option_map (λ r. before ++ r) (all_of (map f z))) (drop_more terms n x within)
    ∙ ap (λ z. option_map (λ r. before ++ r) (all_of (z ∷ map f (drop (n + 1) terms)))) found
    ∙ onto before k (all_of (map f (drop (n + 1) terms)))

-- it isn't
pub none_more : (f : IndexTerm → Option Keyed) (terms : List IndexTerm) (n : ℕ) (x : IndexTerm) (before : List Keyed) → n < length terms → f (get_or terms n x) ≡ None
    → option_map (λ r. before ++ r) (all_of (map f (drop n terms))) ≡ None
none_more f terms n x before within found =
    ap (λ z. option_map (λ r. before ++ r) (all_of (map f z))) (drop_more terms n x within)
    ∙ ap (λ z. option_map (λ r. before ++ r) (all_of (z ∷ map f (drop (n + 1) terms)))) found
