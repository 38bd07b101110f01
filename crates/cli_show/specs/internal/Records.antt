-- The records of a hot journal, by the place of their pages.
use Rattle.std.specs.Prelude.{ℕ, ◌^◌, ◌<◌, List, length}
use Rattle.sqjournal.specs.Journal.{IsHot}
use Rattle.cli_facts.specs.declared.outcome.Refusal.{Refusal}
use Rattle.cli_facts.specs.declared.outcome.Refusal.TheVariants.{TooLarge, NoMemory}

-- why there are none of a hot journal
abbrev pub AreUnreadRecords : (journal : List ℕ) → Refusal → Type 0
AreUnreadRecords b TooLarge = IsHot b × (2 ^ 40 < length b)
AreUnreadRecords b NoMemory = Unit {0}
AreUnreadRecords b _ = ⊥
