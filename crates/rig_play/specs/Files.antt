-- What a recorded call does to a modelled file (own).
use Rattle.std.specs.Prelude.{◌≡◌, ℕ, ◌+◌, ◌<◌, max, Bool, true, false, List, length, Result, Ok, Err}
use Rattle.crashdisk.specs.State.{longest, written, WriteTouches, cut_to, CutTouches}
use Rattle.crashdisk.specs.Call.{DiskState, ChangedBy, SyncedBy}
use Rattle.crashdisk.specs.declared.error.DiskError.{DiskError}
use Rattle.crashdisk.specs.declared.error.DiskError.TheVariants.{Failed}
use Rattle.rig_play.specs.declared.error.PlayError.{PlayError}
use Rattle.rig_play.specs.declared.error.PlayError.TheVariants.{TooLong, NoMemory}

-- what a modelled disk answers to a call that failed, or didn't
abbrev pub answer_of : (fails : Bool) → Result (Unit {0}) DiskError
answer_of true = Err Failed
answer_of false = Ok tt

-- A write, another length and a sync of a disk's database. One that failed may be there in part.
pub record IsWritten (at : ℕ) (bytes : List ℕ) (fails : Bool) (old new : DiskState) : Type 0 where
  pub sector : new.sector ≡ old.sector
  pub tears : new.tears ≡ old.tears
  pub file : ChangedBy old.sector (WriteTouches old.sector old.db at bytes) (written old.db at bytes) (max old.db.len (at + length bytes)) (answer_of fails) old.db new.db

pub record IsCut (n : ℕ) (fails : Bool) (old new : DiskState) : Type 0 where
  pub sector : new.sector ≡ old.sector
  pub tears : new.tears ≡ old.tears
  pub file : ChangedBy old.sector (CutTouches old.sector old.db n) (cut_to old.db n) n (answer_of fails) old.db new.db

pub record IsSynced (fails : Bool) (old new : DiskState) : Type 0 where
  pub sector : new.sector ≡ old.sector
  pub tears : new.tears ≡ old.tears
  pub file : SyncedBy old.sector (answer_of fails) old.db new.db

-- what refuses a call by which a file ends here: that is above the limit, or there is no memory
abbrev pub FileRefused : (end : ℕ) → PlayError → Type 0
FileRefused end TooLong = longest < end
FileRefused end NoMemory = Unit {0}
FileRefused end _ = ⊥
