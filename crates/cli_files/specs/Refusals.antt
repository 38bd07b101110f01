-- What refuses to look at real files (own).
use Rattle.std.specs.Prelude.{◌≡◌, ◌⊎◌}
use Rattle.cli_facts.specs.declared.outcome.Refusal.{Refusal}
use Rattle.cli_facts.specs.declared.outcome.Refusal.TheVariants.{FileChanged, FileFailed, NoMemory}

-- what an error of the system becomes
abbrev pub IsFromSystem : Refusal → Type 0
IsFromSystem refusal = (refusal ≡ FileFailed) ⊎ (refusal ≡ NoMemory)

-- what files that are watched are refused by: one changed, or an error of the system
abbrev pub IsFromWatch : Refusal → Type 0
IsFromWatch refusal = (refusal ≡ FileChanged) ⊎ IsFromSystem refusal
