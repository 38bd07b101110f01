-- Lists by recursion (own).
use Rattle.std.specs.Prelude.{◌≡◌, ℕ, zero, suc, ◌⊎◌, List, [], ◌∷◌}

-- x is an element
abbrev pub In : {A : Type 0} → A → List A → Type 0
In x [] = ⊥
In x (y ∷ ys) = (x ≡ y) ⊎ In x ys

-- P holds of each element
abbrev pub Every : {A : Type 0} → (A → Type 0) → List A → Type 0
Every P [] = Unit {0}
Every P (x ∷ xs) = P x × Every P xs

-- no element is there twice
abbrev pub Apart : {A : Type 0} → List A → Type 0
Apart [] = Unit {0}
Apart (x ∷ xs) = Every (λ y. x ≡ y → ⊥) xs × Apart xs

-- f at each number from i on, k times
abbrev pub each_from : {A : Type 0} → (i k : ℕ) → (ℕ → A) → List A
each_from i zero f = []
each_from i (suc k) f = f i ∷ each_from (suc i) k f
