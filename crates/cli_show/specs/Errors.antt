-- Why not all was shown.
use Rattle.std.specs.Prelude.{◌≡◌, ◌⊎◌}
use Rattle.cli_facts.specs.declared.outcome.Refusal.{Refusal}
use Rattle.cli_facts.specs.declared.outcome.Refusal.TheVariants.{FileFailed, NoMemory, NoSuchPage}
use Rattle.cli_show.specs.declared.error.ShowError.{ShowError}
use Rattle.cli_show.specs.declared.error.ShowError.TheVariants.{Refused, Unwritten}

-- the fact holds of the refusal, where it is one; of a line that could not be written nothing is said
abbrev pub IfRefused : (Refusal → Type 0) → ShowError → Type 0
IfRefused P (Refused refusal) = P refusal
IfRefused P Unwritten = Unit {0}

-- a page isn't read: a file couldn't be read, memory was refused, or there is no such page
abbrev pub IsFromPage : Refusal → Type 0
IsFromPage refusal = (refusal ≡ FileFailed) ⊎ ((refusal ≡ NoMemory) ⊎ (refusal ≡ NoSuchPage))
