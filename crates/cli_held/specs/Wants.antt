-- What a request wants SQLite's locks for (own).
use Rattle.std.specs.Prelude.{◌≡◌, true, false, Some, None, List, ℕ}
use Rattle.std.specs.Borrow.{Bor}
use Rattle.sqlocks.specs.declared.plan.Want.{Want}
use Rattle.sqlocks.specs.declared.plan.Want.TheVariants.{Read, Recover as ToRecover}
use Rattle.cli_words.specs.Line.{Asks}
use Rattle.cli_words.specs.declared.requests.Request.{Request}
use Rattle.cli_words.specs.declared.requests.Request.TheVariants.{Show, Check, Rows, Cells, Diff, DeletedDiff, Recover, Report, Salvage, Version}

-- a recovery in place that isn't forced wants those of a recovery, and all else that reads a file a reader's
abbrev pub Wants : Request → Want → (file : Bor (List ℕ)) → Type 0
Wants (Show of part options) want file = (want ≡ Read) × (file.now ≡ of.now)
Wants (Check of deep options) want file = (want ≡ Read) × (file.now ≡ of.now)
Wants (Rows of table form options) want file = (want ≡ Read) × (file.now ≡ of.now)
Wants (Cells of cells options) want file = (want ≡ Read) × (file.now ≡ of.now)
Wants (Diff of compared options) want file = (want ≡ Read) × (file.now ≡ of.now)
Wants (DeletedDiff of between options) want file = (want ≡ Read) × (file.now ≡ of.now)
Wants (Report of to changes options) want file = (want ≡ Read) × (file.now ≡ of.now)
Wants (Salvage of to places options) want file = (want ≡ Read) × (file.now ≡ of.now)
Wants (Recover of (Some to) force options) want file = (want ≡ Read) × (file.now ≡ of.now)
Wants (Recover of None force options) want file = (want ≡ ToRecover) × (force ≡ false) × (file.now ≡ of.now)
Wants Version want file = ⊥

-- what these words ask for wants them on this file
abbrev pub IsWanted : (words : List (List ℕ)) → Want → (file : Bor (List ℕ)) → Type 0
IsWanted words want file = (request : Request) × Asks words request × Wants request want file

-- a forced recovery in place and the version want none
abbrev pub WantsNone : Request → Type 0
WantsNone (Recover of None force options) = force ≡ true
WantsNone Version = Unit {0}
WantsNone _ = ⊥
