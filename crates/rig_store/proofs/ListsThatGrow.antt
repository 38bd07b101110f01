-- Lists that grow by one element.
use Rattle.std.proofs.Common.{◌≡◌, inl, inr, ℕ, ◌+◌, ◌<◌, List, [], ◌∷◌, ◌++◌, length, get_or, take, map, sym, ◌∙◌, ap, subst, arith}
use Rattle.std.proofs.lemmas.Bool.{cases_lt}
use Rattle.std.proofs.lemmas.List.{get_or_append_left, get_or_at, map-append, take_more}
use Rattle.rig_play.specs.Plays.{Files}
use Rattle.rig_store.specs.Left.{EachHas}

-- what holds of each element by its place, holds of one more
pub each_more : {A : Type 0} (P : ℕ → A → Type 0) (xs : List A) (n : ℕ) (x d : A) → length xs ≡ n → ((j : ℕ) → j < n → P j (get_or xs j d)) → P n x
    → (j : ℕ) → j < n + 1 → P j (get_or (xs ++ x ∷ []) j d)
each_more P xs n x d long each one j less = elim (cases_lt j n) [
  | inl lt ↦ subst (λ y. P j y) (sym (get_or_append_left xs (x ∷ []) d j (let l : j < length xs = omega (arith, lt, long) in l))) (each j lt)
  | inr ge ↦
      let e : j ≡ n = omega (arith, ge, less) in
      subst (λ k. P k (get_or (xs ++ x ∷ []) k d)) (sym e) (subst (λ y. P n y) (sym (get_or_at xs x [] d n long)) one)
]

-- the first elements of a list, and the next
pub next_of : {P Q : Type 0} (f : P → Q) (xs : List P) (i : ℕ) (x : P) → i < length xs → x ≡ get_or xs i x → map f (take (i + 1) xs) ≡ map f (take i xs) ++ f x ∷ []
next_of f xs i x less is =
    ap (λ l. map f l) (take_more xs i x less) ∙ map-append f (take i xs) (get_or xs i x ∷ []) ∙ ap (λ y. map f (take i xs) ++ f y ∷ []) (sym is)

-- one file more has bytes
has_more : (Has : Files → List ℕ → Type 0) (files : List Files) (contents : List (List ℕ)) (f : Files) (bytes : List ℕ) → EachHas Has files contents → Has f bytes
    → EachHas Has (files ++ f ∷ []) (contents ++ bytes ∷ [])
has_more Has [] [] f bytes all one = (one, tt)
has_more Has (g ∷ files) (c ∷ contents) f bytes all one = (all.0, has_more Has files contents f bytes all.1 one)
has_more Has [] (c ∷ contents) f bytes all one = absurd all
has_more Has (g ∷ files) [] f bytes all one = absurd all

pub has_next : {P V : Type 0} (Has : Files → List ℕ → Type 0) (f : P → Files) (g : V → List ℕ) (xs : List P) (i : ℕ) (x : P) (vs all : List V) (v : V)
    → i < length xs → x ≡ get_or xs i x → EachHas Has (map f (take i xs)) (map g vs) → Has (f x) (g v) → all ≡ vs ++ v ∷ []
    → EachHas Has (map f (take (i + 1) xs)) (map g all)
has_next Has f g xs i x vs all v less is before one grown =
    subst (λ files. EachHas Has files (map g all)) (sym (next_of f xs i x less is))
    (subst (λ contents. EachHas Has (map f (take i xs) ++ f x ∷ []) contents) (sym (ap (λ l. map g l) grown ∙ map-append g vs (v ∷ [])))
    (has_more Has (map f (take i xs)) (map g vs) (f x) (g v) before one))
