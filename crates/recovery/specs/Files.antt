-- Which bytes and pages stand in the files of a disk (own).
use Rattle.std.specs.Prelude.{◌≡◌, ℕ, ◌+◌, ◌-◌, ◌*◌, ◌<◌, ◌≤◌, length, get_or}
use Rattle.sqval.specs.Answers.{Files}
use Rattle.sqval.specs.Database.{Database, page}
use Rattle.crashdisk.specs.State.{FileState, byte}
use Rattle.crashdisk.specs.Call.{DiskState, ArePresent}

-- the bytes of both files are present
pub record AreFiles (s : DiskState) (files : Files) : Type 0 where
  pub db : ArePresent s.db files.db
  pub log : ArePresent s.log files.log

-- the present bytes of a file are the pages of d
pub record ArePages (size : ℕ) (d : Database) (s : FileState) : Type 0 where
  pub len : s.len ≡ length d * size
  pub each : (p : ℕ) → 1 ≤ p → p ≤ length d → (j : ℕ) → j < size → byte s ((p - 1) * size + j) ≡ get_or (page d p) j 0
