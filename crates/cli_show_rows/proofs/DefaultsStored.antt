-- Defaults that are stored one by one.
use Rattle.std.proofs.Common.{◌≡◌, ◌<◌, ◌+◌, List, [], ◌∷◌, ◌++◌, ℕ, length, map, take, get_or, refl, sym, ap, ◌∙◌, subst, add-one}
use Rattle.std.specs.Prelude.{Option, option_map}
use Rattle.std.proofs.Math.Seq.{take-suc}
use Rattle.std.proofs.lemmas.List.{map-append}
use Rattle.sqval.specs.Datum.{Datum}
use Rattle.sqdefaults.specs.declared.literal.Literal.{Literal}
use Rattle.sqdefaults.specs.Literals.{datum_in}
use Rattle.sqdeep.specs.declared.text.Encoding.{Encoding}
use Rattle.cli_show_rows.specs.Schemas.{AreDefaultsIn, IsDefaultIn}

-- the values of defaults
abbrev pub values_of : List (Option Literal) → List (Option Datum)
values_of found = map (option_map datum_in) found

defaults_snoc : (encoding : Encoding) (named : List (Option Datum)) (n : Option Datum) (stored : List (Option Datum)) (s : Option Datum)
    → AreDefaultsIn encoding named stored → IsDefaultIn encoding n s → AreDefaultsIn encoding (named ++ n ∷ []) (stored ++ s ∷ [])
defaults_snoc encoding [] n stored s are is = (s, [], is, refl, ap (λ z. z ++ s ∷ []) are)
defaults_snoc encoding (x ∷ named) n stored s are is = (are.0, are.1 ++ s ∷ [], are.2, defaults_snoc encoding named n are.1 s are.3 is, ap (λ z. z ++ s ∷ []) are.4)

-- one more
pub defaults_more : (encoding : Encoding) (found : List (Option Literal)) (i : ℕ) (x : Option Literal) (stored : List (Option Literal)) (s : Option Literal) → i < length found
    → AreDefaultsIn encoding (values_of (take i found)) (values_of stored) → IsDefaultIn encoding (option_map datum_in (get_or found i x)) (option_map datum_in s)
    → AreDefaultsIn encoding (values_of (take (i + 1) found)) (values_of (stored ++ s ∷ []))
defaults_more encoding found i x stored s within are is =
    let f = option_map datum_in in
    let more : take (i + 1) found ≡ take i found ++ get_or found i x ∷ [] = ap (λ n. take n found) (add-one i) ∙ take-suc found i x within in
    let named : values_of (take (i + 1) found) ≡ values_of (take i found) ++ f (get_or found i x) ∷ [] = ap values_of more ∙ map-append f (take i found) (get_or found i x ∷ []) in
    let behind : values_of (stored ++ s ∷ []) ≡ values_of stored ++ f s ∷ [] = map-append f stored (s ∷ []) in
    subst (λ (ns : List (Option Datum)). AreDefaultsIn encoding ns (values_of (stored ++ s ∷ []))) (sym named)
    (subst (λ (ss : List (Option Datum)). AreDefaultsIn encoding (values_of (take i found) ++ f (get_or found i x) ∷ []) ss) (sym behind)
    (defaults_snoc encoding (values_of (take i found)) (f (get_or found i x)) (values_of stored) (f s) are is))
