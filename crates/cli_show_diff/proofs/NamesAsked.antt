-- Names that are asked for, as they are borrowed and as bytes.
use Rattle.std.proofs.Common.{◌≡◌, ◌∙◌, ◌||◌, ℕ, Bool, List, [], ◌∷◌, Bor, ap, false, length, nat_eq, refl, suc, sym}
use Rattle.std.specs.List.{list_any}
use Rattle.std.specs.Str.{str_eq_ignore_ascii_case}
use Rattle.sqtables.specs.declared.list.Object.{Object}
use Rattle.cli_show_diff.specs.Changes.{texts_of}
use Rattle.cli_show_diff.specs.LeftOut.{is_asked}

any_texts : (o : Object) (names : List (Bor (List ℕ)))
    → list_any (λ (n : Bor (List ℕ)). str_eq_ignore_ascii_case o.name.items n.now) names ≡ list_any (λ (n : List ℕ). str_eq_ignore_ascii_case o.name.items n) (texts_of names)
any_texts o [] = refl
any_texts o (n ∷ names) = ap (λ (b : Bool). str_eq_ignore_ascii_case o.name.items n.now || b) (any_texts o names)

length_texts : (names : List (Bor (List ℕ))) → length (texts_of names) ≡ length names
length_texts [] = refl
length_texts (n ∷ names) = ap suc (length_texts names)

pub asked_some : (o : Object) (names : List (Bor (List ℕ))) (any : Bool) → nat_eq (length names) 0 ≡ false
    → any ≡ list_any (λ (n : Bor (List ℕ)). str_eq_ignore_ascii_case o.name.items n.now) names → any ≡ is_asked (texts_of names) o
asked_some o names any none is =
    let none_of : nat_eq (length (texts_of names)) 0 ≡ false = ap (λ n. nat_eq n 0) (length_texts names) ∙ none in
    is ∙ any_texts o names ∙ ap (λ (b : Bool). b || list_any (λ (n : List ℕ). str_eq_ignore_ascii_case o.name.items n) (texts_of names)) (sym none_of)
