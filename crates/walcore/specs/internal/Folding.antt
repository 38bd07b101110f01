-- What the folding of a log into its database does (fileformat2, 4.3).
use Rattle.std.specs.Prelude.{ℕ, List}
use Rattle.sqval.specs.Limits.{usual}
use Rattle.walcore.specs.Folding.{IsTooLargeWithin}

-- the same at the usual limits
abbrev pub IsTooLarge : List ℕ → Type 0
IsTooLarge w = IsTooLargeWithin usual w
