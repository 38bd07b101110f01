-- Names that are taken one by one.
use Rattle.std.proofs.Common.{◌≡◌, ◌<◌, ◌+◌, List, [], ◌∷◌, ◌++◌, ℕ, suc, codes, length, map, take, get_or, sym, ap, ◌∙◌, add-one}
use Rattle.std.specs.Prelude.{Vec}
use Rattle.std.specs.Fmt.{decimal}
use Rattle.std.specs.declared.alloc.Global.{Global}
use Rattle.std.proofs.Math.Seq.{take-suc}
use Rattle.std.proofs.lemmas.List.{map-append}
use Rattle.cli_schema_text.specs.Names.{numbered}

-- the bytes of names
abbrev pub bytes_of : List (Vec ℕ Global) → List (List ℕ)
bytes_of names = map (λ n. n.items) names

-- one more is copied
pub copied_more : (names : List (Vec ℕ Global)) (i : ℕ) (x : Vec ℕ Global) (out : List (Vec ℕ Global)) (v : Vec ℕ Global) → i < length names
    → bytes_of out ≡ bytes_of (take i names) → v.items ≡ (get_or names i x).items → bytes_of (out ++ v ∷ []) ≡ bytes_of (take (i + 1) names)
copied_more names i x out v within done same =
    let items : Vec ℕ Global → List ℕ = λ n. n.items in
    let it = get_or names i x in
    let more : take (i + 1) names ≡ take i names ++ it ∷ [] = ap (λ n. take n names) (add-one i) ∙ take-suc names i x within in
    map-append items out (v ∷ []) ∙ ap (λ z. z ++ v.items ∷ []) done ∙ ap (λ z. bytes_of (take i names) ++ z ∷ []) same
    ∙ sym (map-append items (take i names) (it ∷ [])) ∙ sym (ap bytes_of more)

-- one more is numbered
pub numbered_more : (i : ℕ) (out : List (Vec ℕ Global)) (v : Vec ℕ Global) → bytes_of out ≡ numbered i → v.items ≡ codes "c" ++ decimal (suc i)
    → bytes_of (out ++ v ∷ []) ≡ numbered (i + 1)
numbered_more i out v done is =
    let items : Vec ℕ Global → List ℕ = λ n. n.items in
    map-append items out (v ∷ []) ∙ ap (λ z. z ++ v.items ∷ []) done ∙ ap (λ z. numbered i ++ z ∷ []) is ∙ sym (ap numbered (add-one i))
