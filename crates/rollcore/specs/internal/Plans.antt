-- What a replay plans of a scanned journal (own).
use Rattle.std.specs.Prelude.{◌⊎◌, ℕ, ◌*◌, ◌^◌, ◌<◌, ◌≤◌, List, length, Result, Ok, Err, Option, Some, None}
use Rattle.sqval.specs.Bytes.{word}
use Rattle.sqjournal.specs.Header.{Names}
use Rattle.sqjournal.specs.Journal.{IsHot}
use Rattle.crashdisk.specs.State.{longest}
use Rattle.crashdisk.specs.Call.{DiskState}
use Rattle.rollcore.specs.Replaying.{IsTooLargeWithin}
use Rattle.rollcore.specs.internal.Steps.{HasRead}
use Rattle.crashdisk.specs.Keeps.{HadRefusal}
use Rattle.rollcore.specs.declared.plan.Plan.{Plan}
use Rattle.rollcore.specs.declared.error.RollError.{RollError}
use Rattle.rollcore.specs.declared.error.RollError.TheVariants.{TooLarge, NoMemory, Device, SectorAbovePage}

-- sectors of this size are larger than the journal's pages or the sectors that it names
abbrev pub IsBelow : (torn : ℕ) → List ℕ → Type 0
IsBelow torn w = (word w 24 < torn) ⊎ (word w 20 < torn)

-- a hot journal can be replayed, as far as sectors of this size go
pub record IsFit (torn : ℕ) (w : List ℕ) : Type 0 where
  pub hot : IsHot w
  pub page : torn ≤ word w 24
  pub sector : torn ≤ word w 20

-- the database that a journal restores has at most so many bytes
abbrev pub IsWithin : (most : ℕ) → List ℕ → Type 0
IsWithin most w = word w 16 * word w 24 ≤ most

-- all that is needed to replay it
pub record IsPlan (w : List ℕ) (plan : Plan) : Type 0 where
  pub read : HasRead w plan.scan
  pub names : Names w plan.header

-- room for a page and no more than for a few, and a database that a file may hold
pub record IsSmall (plan : Plan) : Type 0 where
  pub room : plan.header.page_size ≤ length plan.room.items
  pub short : length plan.room.items ≤ 2 ^ 24
  pub few : plan.header.first_size * plan.header.page_size ≤ longest

-- a database of at most so many bytes
abbrev pub IsPlanWithin : (most : ℕ) → Plan → Type 0
IsPlanWithin most plan = plan.header.first_size * plan.header.page_size ≤ most

-- what the judging of a hot journal answers: the first of these that holds
unfoldable pub JudgeAnswer : (most torn : ℕ) → List ℕ → Result (Unit {0}) RollError → Type 0
JudgeAnswer most torn w (Ok _) = IsFit torn w × IsWithin most w
JudgeAnswer most torn w (Err TooLarge) = IsTooLargeWithin most w
JudgeAnswer most torn w (Err SectorAbovePage) = IsWithin most w × IsBelow torn w
JudgeAnswer most torn w (Err _) = ⊥

-- the same of any journal, with memory for its replay; none where it isn't hot
unfoldable pub PlanAnswer : (most torn : ℕ) → List ℕ → Result (Option Plan) RollError → Type 0
PlanAnswer most torn w (Ok (Some plan)) = IsFit torn w × IsPlan w plan × IsWithin most w
PlanAnswer most torn w (Ok None) = IsHot w → ⊥
PlanAnswer most torn w (Err TooLarge) = IsTooLargeWithin most w
PlanAnswer most torn w (Err SectorAbovePage) = IsHot w × IsWithin most w × IsBelow torn w
PlanAnswer most torn w (Err NoMemory) = Unit {0}
PlanAnswer most torn w (Err _) = ⊥

-- the same of a journal on a disk
unfoldable pub ReadAnswer : (most torn : ℕ) → List ℕ → Result (Option Plan) RollError → (old new : DiskState) → Type 0
ReadAnswer most torn w (Err Device) old new = HadRefusal old new
ReadAnswer most torn w result old new = PlanAnswer most torn w result
