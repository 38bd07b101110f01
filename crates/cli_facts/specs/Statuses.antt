-- The numbers with which the program's process ends (own).
use Rattle.std.specs.Prelude.{ℕ}
use Rattle.cli_facts.specs.declared.status.Status.{Status}
use Rattle.cli_facts.specs.declared.status.Status.TheVariants.{Done, Damaged, NotUnderstood, Refused}

-- the number of each end
abbrev pub status_code : Status → ℕ
status_code Done = 0
status_code Damaged = 1
status_code NotUnderstood = 2
status_code Refused = 3
