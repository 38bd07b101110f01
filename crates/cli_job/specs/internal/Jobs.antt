-- Which files may change unseen (own).
use Rattle.std.specs.Prelude.{ℕ, ◌==◌, if◌then◌else◌, Option, None, Some}
use Rattle.cli_facts.specs.declared.readings.Readings.{Readings}
use Rattle.cli_job.specs.declared.sources.Before.{Before}
use Rattle.cli_job.specs.declared.sources.Before.TheVariants.{Dated}

-- the readings of files that are watched by their dates, where so long is to be waited until a change is dated later
abbrev pub young_of : Option Before → (wait : ℕ) → Option Readings
young_of (Some (Dated readings)) wait = if wait == 0 then None else Some readings
young_of _ wait = None
