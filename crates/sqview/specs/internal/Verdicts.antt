-- What a check of files finds.
use Rattle.std.specs.Prelude.{ℕ, false}
use Rattle.sqval.specs.Database.{Database}
use Rattle.sqview.specs.declared.verdict.Verdict.{Verdict}
use Rattle.sqview.specs.Verdicts.{FindsWith}

abbrev pub Finds : Database → (size : ℕ) → Verdict → Type 0
Finds = FindsWith false
