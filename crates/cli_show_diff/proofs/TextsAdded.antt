-- Texts of objects that are added one by one.
use Rattle.std.proofs.Common.{◌≡◌, ◌<◌, ◌+◌, List, [], ◌∷◌, ◌++◌, ℕ, length, take, get_or, refl, sym, ap, ◌∙◌, subst, add-one, append_assoc, append-nil}
use Rattle.std.proofs.Math.Seq.{take-suc}
use Rattle.sqtables.specs.declared.list.Object.{Object}
use Rattle.cli_show_diff.specs.Frames.{AreTextsOf}

-- what was added, behind what was there
abbrev pub Added : (is : List ℕ → Type 0) → (before after : List ℕ) → Type 0
Added is before after = (t : List ℕ) × is t × (after ≡ before ++ t)

texts_snoc : (is : Object → List ℕ → Type 0) (objects : List Object) (o : Object) (t own : List ℕ)
    → AreTextsOf is objects t → is o own → AreTextsOf is (objects ++ o ∷ []) (t ++ own)
texts_snoc is [] o t own are it = (own, [], it, refl, ap (λ z. z ++ own) are ∙ sym (append-nil own))
texts_snoc is (x ∷ objects) o t own are it =
    (are.0, are.1 ++ own, are.2, texts_snoc is objects o are.1 own are.3 it, ap (λ z. z ++ own) are.4 ∙ append_assoc are.0 are.1 own)

-- none was
pub none_added : (is : Object → List ℕ → Type 0) (before : List ℕ) → Added (AreTextsOf is []) before before
none_added is before = ([], refl, sym (append-nil before))

-- one more
pub texts_added : (is : Object → List ℕ → Type 0) (objects : List Object) (i : ℕ) (x : Object) (start before after : List ℕ) → i < length objects
    → Added (AreTextsOf is (take i objects)) start before → Added (is (get_or objects i x)) before after → Added (AreTextsOf is (take (i + 1) objects)) start after
texts_added is objects i x start before after within are it =
    let o = get_or objects i x in
    let more : take (i + 1) objects ≡ take i objects ++ o ∷ [] = ap (λ n. take n objects) (add-one i) ∙ take-suc objects i x within in (
      are.0 ++ it.0,
      subst (λ (os : List Object). AreTextsOf is os (are.0 ++ it.0)) (sym more) (texts_snoc is (take i objects) o are.0 it.0 are.1 it.1),
      it.2 ∙ ap (λ z. z ++ it.0) are.2 ∙ append_assoc start are.0 it.0,
    )
