-- Texts are written up to a limit, and all are counted (own).
use Rattle.std.specs.Prelude.{◌≡◌, ℕ, ◌+◌, Bool, true, nat_lt, List, length, Option, Some, None}
use Rattle.std.specs.Io.KnownBytes.{Appends}
use Rattle.sqcrash.specs.Lines.{joined, first_of, limit_behind}

-- one more may be written, behind so many
abbrev pub is_within : Option ℕ → ℕ → Bool
is_within None k = true
is_within (Some n) k = nat_lt k n

-- behind so many texts as were counted, of these the first are written, and all are counted
abbrev pub Writes : Option ℕ → List (List ℕ) → (old new : ℕ) → (before after : Option (List ℕ)) → Type 0
Writes limit texts old new before after = (new ≡ old + length texts) × Appends before after (joined (first_of (limit_behind limit old) texts))
