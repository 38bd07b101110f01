-- The texts of values, one more at the end.
use Rattle.std.proofs.Common.{◌≡◌, ℕ, suc, ◌+◌, List, [], ◌∷◌, ◌++◌, length, refl, sym, ap, ◌∙◌, arith, append_assoc, append-nil, OnOk, Result, Ok, Err}
use Rattle.sqval.specs.Datum.{Datum}
use Rattle.cli_row_text.specs.declared.form.Form.{Form}
use Rattle.cli_row_text.specs.Lines.{mark_before, label, AreTexts, IsText}

pub texts_snoc : (form : Form) (names : List (List ℕ)) (i n : ℕ) (vs : List Datum) (v : Datum) (t own : List ℕ) → n ≡ i + length vs → AreTexts form names i vs t → IsText form v own
    → AreTexts form names i (vs ++ v ∷ []) (t ++ (mark_before n ++ (label form.notation names n ++ own)))
texts_snoc form names i n [] v t own count are is =
    let same : n ≡ i = omega (arith, count) in
    let text : t ++ (mark_before n ++ (label form.notation names n ++ own)) ≡ mark_before i ++ (label form.notation names i ++ (own ++ [])) =
    ap (λ z. z ++ (mark_before n ++ (label form.notation names n ++ own))) are ∙ ap (λ j. mark_before j ++ (label form.notation names j ++ own)) same ∙ ap (λ z. mark_before i ++ (label form.notation names i ++ z)) (sym (append-nil own)) in
    (own, [], is, refl, text)
texts_snoc form names i n (w ∷ vs) v t own count are is =
    let next : n ≡ suc i + length vs = omega (arith, count) in
    let rest = texts_snoc form names (suc i) n vs v are.1 own next are.3 is in
    let more = mark_before n ++ (label form.notation names n ++ own) in
    let text : t ++ more ≡ mark_before i ++ (label form.notation names i ++ (are.0 ++ (are.1 ++ more))) =
    ap (λ z. z ++ more) are.4 ∙ append_assoc (mark_before i) (label form.notation names i ++ (are.0 ++ are.1)) more
    ∙ ap (λ z. mark_before i ++ z) (append_assoc (label form.notation names i) (are.0 ++ are.1) more ∙ ap (λ z. label form.notation names i ++ z) (append_assoc are.0 are.1 more)) in
    (are.0, are.1 ++ more, are.2, rest, text)

-- what follows of what was written
pub on_ok : {T E : Type 0} (answer : Result T E) (P Q : Type 0) → (P → Q) → OnOk answer P → OnOk answer Q
on_ok (Ok _) P Q follows p = follows p
on_ok (Err _) P Q follows p = tt
