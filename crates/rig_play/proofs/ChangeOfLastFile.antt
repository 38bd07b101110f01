-- The last of some files goes over.
use Rattle.std.proofs.Common.{◌≡◌, inl, inr, ℕ, ◌+◌, ◌<◌, nat_eq, nat_lt, IsTrue, Bool, true, false, List, [], ◌∷◌, ◌++◌, length, get_or, set, take, map, Result, Ok, Err, OnOk, length-append, refl, sym, ◌∙◌, ap, subst, arith}
use Rattle.std.proofs.lemmas.List.{map-append, take_more, take_all, take-set, length-set, get_or-set_same, get_or_at}
use Rattle.std.proofs.lemmas.Bool.Decides.{eqb_tells, nat_tests}
use Rattle.crashdisk.specs.Call.{DiskState}
use Rattle.crashdisk.specs.Model.{state_of}
use Rattle.crashdisk.specs.declared.model.ModelDisk.{ModelDisk}
use Rattle.rig_play.specs.Names.{NameState, LastGoes, IsLonger}

-- where a list isn't empty it has a last
pub some_left : (n : ℕ) (empty : Bool) → empty ≡ nat_eq n 0 → empty ≡ false → 0 < n
some_left n empty is left = elim (eqb_tells n 0) [
  | inl none ↦ absurd (let e : true ≡ false = sym none.0 ∙ sym is ∙ left in cc)
  | inr some ↦ omega (arith, some.1)
]

-- a list is its front and its last
split : {X : Type 0} (xs : List X) (i : ℕ) (x : X) → i + 1 ≡ length xs → x ≡ get_or xs i x → xs ≡ take i xs ++ x ∷ []
split xs i x last is = sym (take_all (i + 1) xs (omega arith)) ∙ take_more xs i x (omega arith) ∙ ap (λ y. take i xs ++ y ∷ []) (sym is)

abbrev pub with_files : List ModelDisk → (made below : ℕ) (maybe_none gone : Bool) → NameState
with_files xs made below maybe_none gone = record { files = map (λ d. state_of d) xs; made = made; below = below; maybe_none = maybe_none; gone = gone }

pub last_goes : {T : Type 0} (answer : Result (Unit {0}) T) (P : DiskState → DiskState → Type 0) (xs : List ModelDisk) (made below : ℕ) (maybe_none gone : Bool) (i : ℕ) (was now : ModelDisk) → i + 1 ≡ length xs → was ≡ get_or xs i was
    → OnOk answer (P (state_of was) (state_of now)) → OnOk answer (LastGoes P (with_files xs made below maybe_none gone) (with_files (set xs i now) made below maybe_none gone))
last_goes (Err e) P xs made below maybe_none gone i was now last is goes = tt
last_goes (Ok x) P xs made below maybe_none gone i was now last is goes =
    let all : List ModelDisk = set xs i now in
    let long : i + 1 ≡ length all = omega (arith, length-set xs i now) in
    let there : now ≡ get_or all i now = sym (get_or-set_same xs i now now (omega arith)) in
    let front : take i all ≡ take i xs = take-set xs i now in
    inr (
      map (λ d. state_of d) (take i xs),
      state_of was,
      state_of now,
      ap (λ (l : List ModelDisk). map (λ d. state_of d) l) (split xs i was last is) ∙ map-append (λ d. state_of d) (take i xs) (was ∷ []),
      goes,
      ap (λ (l : List DiskState). record { files = l; made = made; below = below; maybe_none = maybe_none; gone = gone })
          (ap (λ (l : List ModelDisk). map (λ d. state_of d) l) (split all i now long there ∙ ap (λ (l : List ModelDisk). l ++ now ∷ []) front) ∙ map-append (λ d. state_of d) (take i xs) (now ∷ [])),
    )

-- a list has one last
pub last_same : {X : Type 0} (p q : List X) (x y : X) → p ++ x ∷ [] ≡ q ++ y ∷ [] → x ≡ y
last_same p q x y e =
    let long : length p ≡ length q = omega (arith, ap (λ l. length l) e, length-append p (x ∷ []), length-append q (y ∷ [])) in
    sym (get_or_at p x [] x (length p) refl) ∙ ap (λ l. get_or l (length p) x) e ∙ get_or_at q y [] x (length p) (sym long)

-- the last file is longer
pub longer : (n i : ℕ) (xs : List ModelDisk) (made below : ℕ) (maybe_none gone : Bool) (last : ModelDisk) → i + 1 ≡ length xs → last ≡ get_or xs i last
    → (n < (state_of last).db.len → IsLonger n (with_files xs made below maybe_none gone)) × (IsLonger n (with_files xs made below maybe_none gone) → n < (state_of last).db.len)
longer n i xs made below maybe_none gone last end is =
    let all : map (λ d. state_of d) xs ≡ map (λ d. state_of d) (take i xs) ++ state_of last ∷ [] =
    ap (λ (l : List ModelDisk). map (λ d. state_of d) l) (split xs i last end is) ∙ map-append (λ d. state_of d) (take i xs) (last ∷ []) in (
      λ lt. (map (λ d. state_of d) (take i xs), state_of last, all, lt),
      λ is_longer. subst (λ (d : DiskState). n < d.db.len) (last_same is_longer.0 (map (λ d. state_of d) (take i xs)) is_longer.1 (state_of last) (sym is_longer.2 ∙ all)) is_longer.3,
    )

-- a test of a number
pub tells_less : (a b c : ℕ) → b ≡ c → (IsTrue (nat_lt a b) → a < c) × (a < c → IsTrue (nat_lt a b))
tells_less a b c e = (λ is. grind (arith, nat_tests), λ lt. grind (arith, nat_tests))
