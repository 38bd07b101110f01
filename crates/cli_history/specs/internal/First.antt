-- What is found of commits behind 0 (own).
use Rattle.std.specs.Prelude.{ℕ, List, Some}
use Rattle.cli_history.specs.Ranges.{IsNextKnown}

-- this is the first of them that is known
abbrev pub IsKnownLater : (w : List ℕ) → (front : ℕ) → (file : List ℕ) → (first : ℕ) → Type 0
IsKnownLater w front file first = IsNextKnown w front file 0 (Some first)
