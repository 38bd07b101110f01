-- The steps of a fold by what stands on the disk meanwhile (fileformat2, 4.3; that all which a crash may leave shows one
-- database at each step is own).
use Rattle.std.specs.Prelude.{◌≡◌, ℕ, List, length}
use Rattle.sqval.specs.Database.{Database}
use Rattle.sqwal.specs.Header.{IsHeader, named_size}
use Rattle.sqwal.specs.Frames.{size_of, IsFront}
use Rattle.sqwal.specs.View.{Unnamed}
use Rattle.crashdisk.specs.Call.{DiskState}
use Rattle.walcore.specs.Alone.{wal_log}
use Rattle.crashdisk.specs.Keeps.{IsLogDurable, Suits}
use Rattle.recovery.specs.internal.Phases.{Unwritten, Restoring, Restored}

-- a valid header of the log names this page size
abbrev pub IsOfSize : (size : ℕ) → List ℕ → Type 0
IsOfSize size w = IsHeader (named_size w) w → named_size w ≡ size

-- nothing was written yet
pub record Scanning (size : ℕ) (d : Database) (w : List ℕ) (s : DiskState) : Type 0 where
  pub suits : Suits size s
  pub log : Unwritten wal_log size d w s

-- pages that the frames 1 to m name are written into the file, or its length is set; the log is at its front
pub record Writing (size : ℕ) (w : List ℕ) (m : ℕ) (d : Database) (s : DiskState) : Type 0 where
  pub front : IsFront size w m
  pub named : named_size w ≡ size
  pub count : length d ≡ size_of size w m
  pub pages : Restoring wal_log size d (Unnamed size w m) w s

-- the file has all pages, and the log is as it was
pub record Filed (size : ℕ) (d : Database) (w : List ℕ) (s : DiskState) : Type 0 where
  pub suits : Suits size s
  pub durable : IsLogDurable s w
  pub of_size : IsOfSize size w
  pub all : Restored wal_log size d s
