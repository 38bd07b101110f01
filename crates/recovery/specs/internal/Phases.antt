-- The steps of a restore by what stands on the disk meanwhile: in each of them all that a crash may leave shows the
-- database that it showed at the start (own).
use Rattle.std.specs.Prelude.{◌≡◌, ℕ, ◌≤◌, List, length}
use Rattle.sqval.specs.Database.{Database, page, file_page}
use Rattle.crashdisk.specs.State.{IsImage}
use Rattle.crashdisk.specs.Call.{DiskState, IsSoundDisk, ArePresent}
use Rattle.crashdisk.specs.Keeps.{IsLogDurable}
use Rattle.recovery.specs.Logs.{LogKind, MayBeRead}
use Rattle.recovery.specs.Phases.{Filling}
use Rattle.recovery.specs.internal.Files.{IsFiled}
use Rattle.recovery.specs.internal.Logs.{Repeats}

-- nothing was written yet
pub record Unwritten (kind : LogKind) (size : ℕ) (d : Database) (w : List ℕ) (s : DiskState) : Type 0 where
  pub durable : IsLogDurable s w
  pub shows : (db : List ℕ) → IsImage s.sector s.tears s.db db → kind.Show size db w d
  pub present : (db : List ℕ) → ArePresent s.db db → kind.Show size db w d

-- the same from a log that is durable: it shows d with each file that has these pages
pub record Restoring (kind : LogKind) (size : ℕ) (d : Database) (Unnamed : ℕ → Type 0) (w : List ℕ) (s : DiskState) : Type 0 where
  pub file : Filling size d Unnamed s
  pub durable : IsLogDurable s w
  pub shows : (db : List ℕ) → ((p : ℕ) → 1 ≤ p → p ≤ length d → Unnamed p → page d p ≡ file_page size db p) → kind.Show size db w d

-- the file has all pages of d, and each log that may be read shows d with them
pub record Restored (kind : LogKind) (size : ℕ) (d : Database) (s : DiskState) : Type 0 where
  pub sound : IsSoundDisk s
  pub file : IsFiled size d s
  pub log : (w : List ℕ) → MayBeRead kind s w → Repeats kind size d w
