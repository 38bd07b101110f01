-- What a crash may leave of an engine's log, and which database that shows with the file (own).
use Rattle.std.specs.Prelude.{◌≡◌, ◌⊎◌, ℕ, ◌*◌, true, false, List, length}
use Rattle.sqval.specs.Database.{Database}
use Rattle.crashdisk.specs.State.{IsImage}
use Rattle.crashdisk.specs.Call.{DiskState, ArePresent}
use Rattle.crashdisk.specs.Keeps.{IsLogDurable}

-- An engine's kind of log. What of a log counts must stand whole where a disk that tears leaves it. A file of pages of
-- a size and a log show a database, by the file alone where the log is idle.
pub record LogKind : Type 1 where
  pub IsIdle : List ℕ → Type 0
  pub AreWhole : (kept : List ℕ) (handed : List (ℕ × List ℕ)) → List ℕ → Type 0
  pub Show : (size : ℕ) (db w : List ℕ) → Database → Type 0

-- A log that a crash may leave, where a disk that tears doesn't put together by chance what must stand whole.
pub record MayBeLeft (kind : LogKind) (s : DiskState) (w : List ℕ) : Type 0 where
  pub image : IsImage s.sector s.tears s.log w
  pub whole : s.tears ≡ true → kind.AreWhole s.kept s.handed w

-- A log that may be read after a crash, or after a call that failed: of listed values alone, or one that may be left.
abbrev pub MayBeRead : LogKind → DiskState → List ℕ → Type 0
MayBeRead kind s w = IsImage s.sector false s.log w ⊎ MayBeLeft kind s w

-- all that a crash may leave shows it, and so do the bytes that are present, and all that may be present after a sync
-- that fails
pub record ShowsAlone (kind : LogKind) (size : ℕ) (d : Database) (s : DiskState) : Type 0 where
  pub images : (db w : List ℕ) → IsImage s.sector s.tears s.db db → MayBeLeft kind s w → kind.Show size db w d
  pub listed : (db w : List ℕ) → IsImage s.sector s.tears s.db db → IsImage s.sector false s.log w → kind.Show size db w d
  pub present : (db w : List ℕ) → ArePresent s.db db → ArePresent s.log w → kind.Show size db w d

-- a file and a log show a database, and where the log is idle the file is as long as that
pub record ShowsWhole (kind : LogKind) (size : ℕ) (db w : List ℕ) (d : Database) : Type 0 where
  pub shows : kind.Show size db w d
  pub whole : kind.IsIdle w → length db ≡ length d * size

-- where nothing of the log was unsynced, and all that a crash may leave showed one database, it still does
abbrev pub Agrees : LogKind → (size : ℕ) (old new : DiskState) → Type 0
Agrees kind size old new = (w : List ℕ) (d : Database) → IsLogDurable old w → ShowsAlone kind size d old → ShowsAlone kind size d new
