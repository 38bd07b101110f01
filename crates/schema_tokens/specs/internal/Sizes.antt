-- How long forms are (own).
use Rattle.std.specs.Prelude.{ℕ, ◌<◌, ◌≤◌, Option, Some, None}
use Rattle.schema_tokens.specs.declared.kinds.Form.{Form}

-- a form, if there is one, has at least one byte and at most n
abbrev pub IsWithin : (n : ℕ) → Option Form → Type 0
IsWithin n None = Unit {0}
IsWithin n (Some f) = (0 < f.length) × (f.length ≤ n)
