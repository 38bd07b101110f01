-- Why names are refused, by one of them.
use Rattle.std.proofs.Common.{◌≡◌, inl, inr, ℕ, zero, suc, ◌<◌, Bool, List, [], ◌∷◌, ◌++◌, length, get_or, map, ◌∙◌, sym, ap, subst, String, string_bytes, arith}
use Rattle.std.specs.List.{Contains, filter}
use Rattle.std.proofs.lemmas.List.{get_or-map, length-map, map-append}
use Rattle.std.proofs.lemmas.List.Elements.{Contains-append_left, Contains-append_right, filter-append}
use Rattle.rig_store.specs.Calls.{bytes_of}
use Rattle.rig_store.specs.declared.call.Call.{Call}
use Rattle.sqcrash_store.specs.Refused.{HasNoFileName, NamesRefused, PutRefused}
use Rattle.sqcrash_store.specs.States.{tells_name, names_told}
use Rattle.sqcrash_store.specs.declared.outcome.Refusal.{Refusal}

only_at : (name n : List ℕ) (k : ℕ) → k < 1 → get_or (name ∷ []) k n ≡ n → name ≡ n
only_at name n zero below is = is
only_at name n (suc k) below is = absurd (omega (arith, below))

-- a name that is none is among all where it is among some of them
pub no_name_in : (some all : List (List ℕ)) → ((n : List ℕ) → Contains some n → Contains all n) → HasNoFileName some → HasNoFileName all
no_name_in some all among none = (none.0, among none.0 none.1, none.2)

-- one name of these
pub one_of : (names : List (List ℕ)) (name : List ℕ) → Contains names name → (n : List ℕ) → Contains (name ∷ []) n → Contains names n
one_of names name there n is = subst (λ (x : List ℕ). Contains names x) (only_at name n is.0 is.1 is.2) there

pub put_in : (some all : List (List ℕ)) (refusal : Refusal) → ((n : List ℕ) → Contains some n → Contains all n) → PutRefused some refusal → PutRefused all refusal
put_in some all refusal among is = elim is [
  | inl files ↦ inl files
  | inr name ↦ inr (name.0, no_name_in some all among name.1)
]

pub names_in : (some all : List (List ℕ)) (refusal : Refusal) → ((n : List ℕ) → Contains some n → Contains all n) → NamesRefused some refusal → NamesRefused all refusal
names_in some all refusal among is = elim is [
  | inl memory ↦ inl memory
  | inr name ↦ inr (name.0, no_name_in some all among name.1)
]

told_append : (b : List ℕ) (xs ys : List Call) → names_told b (xs ++ ys) ≡ names_told b xs ++ names_told b ys
told_append b xs ys =
    let f : Call → List ℕ = λ x. bytes_of b x in
    let tells : Call → Bool = λ x. tells_name x.action in
    ap (λ (l : List Call). map f l) (filter-append tells xs ys) ∙ map-append f (filter tells xs) (filter tells ys)

-- the names of one record are among those of all
pub told_in : (b : List ℕ) (calls before behind : List Call) (c : Call) → calls ≡ before ++ c ∷ behind → (n : List ℕ) → Contains (names_told b (c ∷ [])) n → Contains (names_told b calls) n
told_in b calls before behind c split n there =
    let own = names_told b (c ∷ []) in
    let rest = names_told b behind in
    let one : Contains (names_told b (c ∷ behind)) n = subst (λ (l : List (List ℕ)). Contains l n) (sym (told_append b (c ∷ []) behind)) (Contains-append_left own rest n there) in
    let all : Contains (names_told b (before ++ c ∷ behind)) n =
    subst (λ (l : List (List ℕ)). Contains l n) (sym (told_append b before (c ∷ behind))) (Contains-append_right (names_told b before) (names_told b (c ∷ behind)) n one) in
    subst (λ (l : List Call). Contains (names_told b l) n) (sym split) all

-- the text of each name is among those of all
pub text_among : {A : Type 0} (names : List (String A)) (k : ℕ) (name : String A) → k < length names → name ≡ get_or names k name → Contains (map (λ n. string_bytes n) names) (string_bytes name)
text_among {A} names k name below is =
    let f : String A → List ℕ = λ n. string_bytes n in
    let long : k < length (map f names) = omega (arith, below, length-map names f) in
    (k, long, get_or-map f names k name (string_bytes name) below ∙ ap f (sym is))
