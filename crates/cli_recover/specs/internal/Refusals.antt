-- Which refusal that of a guard becomes (own).
use Rattle.cli_facts.specs.declared.outcome.Refusal.{Refusal}
use Rattle.cli_facts.specs.declared.outcome.Refusal.TheVariants.{FileFailed, InUse, NoMemory}

abbrev pub refusal_of_guard : Refusal → Refusal
refusal_of_guard InUse = InUse
refusal_of_guard NoMemory = NoMemory
refusal_of_guard _ = FileFailed
