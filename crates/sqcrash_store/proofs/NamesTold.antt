-- The names that records tell, one after the other.
use Rattle.std.proofs.Common.{◌≡◌, ℕ, ◌+◌, ◌<◌, Bool, true, false, cond, List, [], ◌∷◌, ◌++◌, length, get_or, map, take, sym, ◌∙◌, ap}
use Rattle.std.specs.List.{filter}
use Rattle.std.proofs.lemmas.List.{append-nil, map-append}
use Rattle.std.proofs.lemmas.List.Elements.{filter_more}
use Rattle.rig_store.specs.Calls.{bytes_of}
use Rattle.rig_store.specs.declared.call.Call.{Call}
use Rattle.sqcrash_store.specs.States.{tells_name, names_told}

-- one that tells none adds none, and one that tells one its text
pub told_none : (b : List ℕ) (c : Call) (l : List (List ℕ)) → tells_name c.action ≡ false → l ≡ l ++ names_told b (c ∷ [])
told_none b c l e = sym (ap (λ (t : Bool). l ++ map (λ x. bytes_of b x) (cond t (c ∷ []) [])) e ∙ append-nil l)

pub told_one : (b : List ℕ) (c : Call) → tells_name c.action ≡ true → names_told b (c ∷ []) ≡ bytes_of b c ∷ []
told_one b c e = ap (λ (t : Bool). map (λ x. bytes_of b x) (cond t (c ∷ []) [])) e

-- one more
pub told_more : (b : List ℕ) (calls : List Call) (i : ℕ) (d : Call) → i < length calls → names_told b (take (i + 1) calls) ≡ names_told b (take i calls) ++ names_told b (get_or calls i d ∷ [])
told_more b calls i d less =
    let f : Call → List ℕ = λ x. bytes_of b x in
    let tells : Call → Bool = λ x. tells_name x.action in
    ap (λ (l : List Call). map f l) (filter_more tells calls i d less)
    ∙ map-append f (filter tells (take i calls)) (cond (tells (get_or calls i d)) (get_or calls i d ∷ []) [])
