-- What is shown of a database: its header, and a page.
use Rattle.sqval.specs.Database.{Database}
use Rattle.cli_facts.specs.declared.outcome.Refusal.{Refusal}
use Rattle.cli_facts.specs.declared.outcome.Refusal.TheVariants.{NotADatabase, NoMemory}
use Rattle.cli_show.specs.Shown.{HasHeader}

-- why no header is read
abbrev pub IsHeaderUnread : Database → Refusal → Type 0
IsHeaderUnread d NotADatabase = ¬ HasHeader d
IsHeaderUnread d NoMemory = Unit {0}
IsHeaderUnread d _ = ⊥
