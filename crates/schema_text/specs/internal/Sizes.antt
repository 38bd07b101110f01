-- How long clauses are (own).
use Rattle.std.specs.Prelude.{ℕ, ◌<◌, ◌≤◌, Option, Some, None}
use Rattle.schema_text.specs.declared.clauses.Found.{Found}

-- a clause, if there is one, has at least one token and at most n
abbrev pub IsWithin : (n : ℕ) → Option Found → Type 0
IsWithin n None = Unit {0}
IsWithin n (Some f) = (0 < f.length) × (f.length ≤ n)
