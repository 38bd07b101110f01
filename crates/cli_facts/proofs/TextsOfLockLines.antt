-- Texts of lines of /proc/locks.
use Rattle.std.proofs.Common.{◌≡◌, ◌<◌, ◌↔◌, ◌++◌, List, [], ℕ, length, arith, refl, subst, sym, get_or}
use Rattle.std.specs.Prelude.{Any, Bool, MatchBool, Option, Some, None, IsTrue, true, false}
use Rattle.std.specs.Fmt.{WritesText}
use Rattle.std.specs.List.{AllWithin, HoldsAt}
use Rattle.std.proofs.lemmas.Fmt.{contents_after_writes}
use Rattle.std.proofs.lemmas.List.{get_or_default}

-- whether some element has P, from the answer of `any`
pub decides_any : {X : Type 0} (P : X → Type 0) (d : X) (r : Bool) (xs : List X)
    → MatchBool r ((k : ℕ) × (k < length xs) × HoldsAt P xs k) (AllWithin (λ x. ¬ P x) xs 0 (length xs)) → IsTrue r ↔ Any P xs
decides_any P d true xs found =
    (λ _. (found.0, get_or xs found.0 d, found.1, get_or_default xs found.0 _ d found.1, found.2 d), λ _. refl)
decides_any P d false xs none =
    (λ t. absurd (let f : false ≡ true = t in cc), λ any. absurd (none any.0 any.1 (omega arith) any.2 (subst P (sym any.3) any.4)))

-- what a writer that appends holds once it wrote a text
pub holds_text : {W : Type 0} (took : W → List ℕ → W → Type 0) (contents : W → List ℕ)
    → ((w : W) (bs : List ℕ) (v : W) → took w bs v → contents v ≡ contents w ++ bs)
    → (w : W) (o : Option (List ℕ)) (v : W) → WritesText took w o v → contents w ≡ [] → (bs : List ℕ) → o ≡ Some bs → contents v ≡ bs
holds_text took contents appends w None v writes empty bs is = cc
holds_text took contents appends w (Some text) v writes empty bs is =
    let whole : contents v ≡ contents w ++ text = contents_after_writes took contents appends w text v writes in
    let same : text ≡ bs = cc in
    rw (whole, empty) same
