-- The greatest of the numbers with which the lines of the first files end (own).
use Rattle.std.specs.Prelude.{◌≡◌, ◌⊎◌, ◌↔◌, ◌≤◌, IsTrue, ℕ, List, take}
use Rattle.std.specs.List.{All, AllZip, Contains}
use Rattle.sqrescue.specs.declared.each.Ended.{Ended}

-- those of the first files, so many; 0 of none
abbrev pub IsGreatestOfFirst : (Ends : ℕ → ℕ → Type 0) → (places : List ℕ) → (n : ℕ) → Ended → Type 0
IsGreatestOfFirst Ends places n ended = (numbers : List ℕ) × AllZip Ends (take n places) numbers × All (λ m. m ≤ ended.greatest) numbers
    × (((n ≡ 0) × (ended.greatest ≡ 0)) ⊎ Contains numbers ended.greatest) × (IsTrue ended.is_damaged ↔ Contains numbers 1)
