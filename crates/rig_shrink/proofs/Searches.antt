-- A search through a list that found nothing.
use Rattle.std.proofs.Common.{◌≡◌, ◌⊎◌, inl, inr, ℕ, ◌+◌, ◌<◌, ◌≤◌, List, [], ◌∷◌, ◌++◌, length, get_or, map, sym, ◌∙◌, ap, subst, length-append, arith}
use Rattle.std.proofs.Math.ListN.{get_or-append}
use Rattle.std.proofs.Math.Nat.{eq-or-lt_of_le}
use Rattle.std.proofs.Math.Seq.{get_or-append_seam}
use Rattle.std.proofs.lemmas.Bool.{cases_lt}
use Rattle.std.proofs.lemmas.List.{get_or-map, get_or_default, length-map}
use Rattle.std.specs.List.{Contains}
use Rattle.rig_play.specs.Plays.{Files, epoch_now, epochs_of}
use Rattle.rig_play.specs.declared.meta.Epoch.{Epoch}

-- none of the first so many elements is so
abbrev pub NoneBelow : {X : Type 0} (P : X → Type 0) (xs : List X) (n : ℕ) → Type 0
NoneBelow {X} P xs n = (m : ℕ) (x : X) → m < n → m < length xs → get_or xs m x ≡ x → ¬ P x

-- one element more
pub none_more : {X : Type 0} (P : X → Type 0) (xs : List X) (n : ℕ) (x : X) → get_or xs n x ≡ x → NoneBelow P xs n → ¬ P x → NoneBelow P xs (n + 1)
none_more P xs n x at before here m y less within is = elim (eq-or-lt_of_le (let le : m ≤ n = omega arith in le)) [
  | inl e ↦
      let same : y ≡ x = sym is ∙ ap (λ (j : ℕ). get_or xs j y) e ∙ get_or_default xs n y x (omega arith) ∙ at in
      λ p. here (subst P same p)
  | inr lt ↦ before m y lt within is
]

-- all elements were looked at
pub none_of : {X : Type 0} (P : X → Type 0) (xs : List X) (n : ℕ) → length xs ≤ n → NoneBelow P xs n → (x : X) → Contains xs x → ¬ P x
none_of P xs n end before x has = before has.0 x (omega (arith, has.1)) has.1 has.2

-- what stands at a place is an element, and so is its image in a mapped list
pub mapped : {X Y : Type 0} (f : X → Y) (xs : List X) (ys : List Y) (n : ℕ) (x : X) → map f xs ≡ ys → n < length xs → get_or xs n x ≡ x → Contains ys (f x)
mapped {X} {Y} f xs ys n x same less at = subst (λ (l : List Y). Contains l (f x)) same (n, omega (arith, length-map xs f), get_or-map f xs n x (f x) less ∙ ap f at)

element : {X : Type 0} (xs : List X) (i : ℕ) → i < length xs → (x : X) × (get_or xs i x ≡ x)
element [] i less = absurd (omega arith)
element (x ∷ xs) i less = (get_or (x ∷ xs) i x, get_or_default (x ∷ xs) i (get_or (x ∷ xs) i x) x less)

-- no element of a mapped list is so
pub none_mapped : {X Y : Type 0} (f : X → Y) (P : Y → Type 0) (xs : List X) (ys : List Y) → map f xs ≡ ys → ((x : X) → Contains xs x → ¬ P (f x)) → (y : Y) → Contains ys y → ¬ P y
none_mapped {X} {Y} f P xs ys same none y has =
    let within : has.0 < length xs = omega (arith, has.1, length-map xs f, ap (λ (l : List Y). length l) same) in
    let x = element xs has.0 within in
    let is : f x.0 ≡ y = sym (ap f x.1) ∙ sym (get_or-map f xs has.0 x.0 y within) ∙ ap (λ (l : List Y). get_or l has.0 y) same ∙ has.2 in
    λ p. none x.0 (has.0, within, x.1) (subst P (sym is) p)

-- of the epochs of a player, where no earlier one is so, one is the present one or isn't
pub none_epochs : (P : Epoch → Type 0) (s : Files) (earlier : List Epoch) (n : ℕ) (e : Epoch) → earlier ≡ s.earlier → length earlier ≤ n → NoneBelow P earlier n → Contains (epochs_of s) e
    → (e ≡ epoch_now s) ⊎ ¬ P e
none_epochs P s earlier n e same end before has = elim (cases_lt has.0 (length s.earlier)) [
  | inl lt ↦
      let long : length earlier ≡ length s.earlier = ap (λ (l : List Epoch). length l) same in
      let at : get_or earlier has.0 e ≡ e = ap (λ (l : List Epoch). get_or l has.0 e) same ∙ sym (get_or-append s.earlier (epoch_now s ∷ []) e has.0 lt) ∙ has.2 in
      inr (before has.0 e (omega arith) (omega arith) at)
  | inr past ↦
      let last : has.0 ≡ length s.earlier = omega (arith, has.1, length-append s.earlier (epoch_now s ∷ [])) in
      inl (sym has.2 ∙ ap (λ (m : ℕ). get_or (epochs_of s) m e) last ∙ get_or-append_seam s.earlier (epoch_now s) [] e)
]
