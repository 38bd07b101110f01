-- The verdict of a check that isn't deep (own). No public contract cites these words.
use Rattle.std.specs.Prelude.{◌≡◌, ℕ, Bool}
use Rattle.sqval.specs.Database.{Database}
use Rattle.sqview.specs.Verdicts.{FindsWith}
use Rattle.sqview.specs.declared.verdict.Verdict.{Verdict}
use Rattle.sqdeepjudge.specs.Verdicts.{verdict_as}
use Rattle.sqdeepjudge.specs.declared.verdict.DeepVerdict.{DeepVerdict}

-- the verdict of a check on a database of pages of this size, as a deep one
abbrev pub IsPlain : (maps : Bool) → Database → (size : ℕ) → DeepVerdict → Type 0
IsPlain maps d size verdict = (found : Verdict) × (verdict ≡ verdict_as found) × FindsWith maps d size found
