-- What is planned of opened files, and carried out on a disk over two of them (own).
use Rattle.std.specs.Prelude.{◌≡◌, ◌⊎◌, ℕ, List, Ok}
use Rattle.sqval.specs.Limits.{Bounds}
use Rattle.crashdisk.specs.Call.{DiskState}
use Rattle.sqview.specs.Logs.{CountsAnswer}
use Rattle.sqview.specs.declared.logs.LogInUse.{LogInUse}
use Rattle.cli_words.specs.declared.requests.Options.{Options}
use Rattle.cli_facts.specs.declared.outcome.Outcome.{Outcome}
use Rattle.cli_facts.specs.declared.outcome.Refusal.{Refusal}
use Rattle.cli_files.specs.Files.{IsOpenedAt}
use Rattle.cli_files.specs.declared.opened_file.OpenedFile.{OpenedFile}
use Rattle.cli_files.specs.declared.paths.Paths.{Paths}
use Rattle.cli_show.specs.Limits.{limits_named}
use Rattle.cli_recover.specs.Engines.{IsOutcomeOf, IsRefusalOf}
use Rattle.cli_recover.specs.Plans.{IsPlanOf, IsUnplannedOf}
use Rattle.cli_recover.specs.Recovers.{IsDone, IsDoneOn}
use Rattle.cli_recover.specs.Refusals.{IsFromGuard}
use Rattle.cli_recover.specs.declared.plans.Recovery.{Recovery}

-- A plan was carried out on a disk over this database file and this log.
abbrev pub IsDoneOver : {F D : Type 0} → (is_over : D → F → F → Type 0) → (keeps_word : D → Type 0) → (state : D → DiskState) → (lets_change : Type 0) → Bounds → (db log : F)
    → Recovery → Outcome → Type 0
IsDoneOver {F} {D} is_over keeps_word state lets_change limits db log plan outcome =
    (old : D) × (new : D) × is_over old db log × IsDone keeps_word state lets_change limits plan outcome old new

-- This is planned of the database file that was opened at its path, with these logs, of which this one counts.
pub record IsPlannedBy {F : Type 0} (bytes : OpenedFile F → List ℕ) (gives : OpenedFile F → Type 0) (paths : Paths) (options : Options) (in_use : LogInUse)
    (wal journal : OpenedFile F) (plan : Recovery) : Type 0 where
  pub db : OpenedFile F
  pub opened : IsOpenedAt db paths.db db.length
  pub planned : gives db → gives wal → gives journal → CountsAnswer (bytes wal) (bytes journal) (Ok in_use)
      → IsPlanOf options (bytes db) (bytes wal) (bytes journal) plan

-- nothing is
pub record IsUnplannedBy {F : Type 0} (bytes : OpenedFile F → List ℕ) (gives : OpenedFile F → Type 0) (paths : Paths) (options : Options) (in_use : LogInUse)
    (wal journal : OpenedFile F) (refusal : Refusal) : Type 0 where
  pub db : OpenedFile F
  pub opened : IsOpenedAt db paths.db db.length
  pub unplanned : gives db → gives wal → gives journal → CountsAnswer (bytes wal) (bytes journal) (Ok in_use)
      → IsUnplannedOf options (bytes db) (bytes wal) (bytes journal) refusal

-- what is planned so came to this
abbrev pub IsCarriedBy : {F D : Type 0} → (bytes : OpenedFile F → List ℕ) → (gives : OpenedFile F → Type 0) → (keeps_word : D → Type 0) → (state : D → DiskState)
    → (lets_change : Type 0) → Paths → Options → LogInUse → (wal journal : OpenedFile F) → Outcome → Type 0
IsCarriedBy bytes gives keeps_word state lets_change paths options in_use wal journal outcome = (plan : Recovery)
    × IsPlannedBy bytes gives paths options in_use wal journal plan
    × IsOutcomeOf plan outcome × IsDoneOn keeps_word state lets_change (limits_named options.large) plan outcome

-- or it is refused
abbrev pub IsUncarriedBy : {F : Type 0} → (bytes : OpenedFile F → List ℕ) → (gives : OpenedFile F → Type 0) → Paths → Options → LogInUse → (wal journal : OpenedFile F) → Refusal
    → Type 0
IsUncarriedBy bytes gives paths options in_use wal journal refusal = IsFromGuard refusal
    ⊎ (IsUnplannedBy bytes gives paths options in_use wal journal refusal
    ⊎ ((plan : Recovery) × IsPlannedBy bytes gives paths options in_use wal journal plan × IsRefusalOf plan refusal))
