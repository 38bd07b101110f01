-- Which refusal each error of an engine becomes, and what a guard refuses by (own).
use Rattle.std.specs.Prelude.{◌≡◌, ◌⊎◌}
use Rattle.rollcore.specs.declared.error.RollError.{RollError}
use Rattle.rollcore.specs.declared.error.RollError.TheVariants as rolls
use Rattle.walcore.specs.declared.error.WalError.{WalError}
use Rattle.walcore.specs.declared.error.WalError.TheVariants as wals
use Rattle.cli_facts.specs.declared.outcome.Refusal.{Refusal}
use Rattle.cli_facts.specs.declared.outcome.Refusal.TheVariants.{FileFailed, InUse, PageSizesDiffer, TooLarge, NoMemory}
use Rattle.cli_files.specs.Refusals.{IsFromSystem}

-- what refuses a change: another process has the file open, or an error of the system
abbrev pub IsFromGuard : Refusal → Type 0
IsFromGuard refusal = (refusal ≡ InUse) ⊎ IsFromSystem refusal

-- what an error of a fold becomes, and of a replay
abbrev pub refusal_of_wal : WalError → Refusal
refusal_of_wal wals.TooLarge = TooLarge
refusal_of_wal wals.PageSize = PageSizesDiffer
refusal_of_wal wals.NoMemory = NoMemory
refusal_of_wal _ = FileFailed

abbrev pub refusal_of_roll : RollError → Refusal
refusal_of_roll rolls.TooLarge = TooLarge
refusal_of_roll rolls.NoMemory = NoMemory
refusal_of_roll _ = FileFailed
