-- What calls answer that only read the disk (own).
use Rattle.std.specs.Prelude.{◌≡◌, ℕ, ◌+◌, ◌≤◌, List, Result, Option}
use Rattle.crashdisk.specs.State.{IsSectorSize}
use Rattle.crashdisk.specs.Call.{DiskState, ArePresent}
use Rattle.rollcore.specs.internal.Opening.{CountAnswer}
use Rattle.rollcore.specs.internal.Plans.{ReadAnswer}
use Rattle.rollcore.specs.internal.Steps.{torn_sector}
use Rattle.rollcore.specs.declared.plan.Plan.{Plan}
use Rattle.rollcore.specs.declared.error.RollError.{RollError}

-- the same of the disk's journal and sectors
pub record FindsPlan (most : ℕ) (result : Result (Option Plan) RollError) (old new : DiskState) : Type 0 where
  pub sectors : IsSectorSize old.sector
  pub plan : (w : List ℕ) → ArePresent old.log w → ReadAnswer most (torn_sector old) w result old new

-- the pages of the database file are counted
abbrev pub CountsPages : (size : ℕ) → Result ℕ RollError → (old new : DiskState) → Type 0
CountsPages size result old new = CountAnswer size old.db.len result old new
