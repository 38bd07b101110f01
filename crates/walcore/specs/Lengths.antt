-- How long the file is that a crash leaves, while a log is folded into it (own).
use Rattle.std.specs.Prelude.{◌≡◌, ℕ, ◌*◌, ◌≤◌, List, length}
use Rattle.sqwal.specs.Header.{named_size}
use Rattle.sqwal.specs.Frames.{size_of, IsFront}
use Rattle.crashdisk.specs.State.{IsImage}
use Rattle.crashdisk.specs.Call.{DiskState}
use Rattle.crashdisk.specs.Keeps.{IsLogDurable, IsLong}
use Rattle.recovery.specs.Logs.{MayBeRead}
use Rattle.walcore.specs.Alone.{wal_log}

-- the same wherever the log that is left has no front
abbrev pub EndsBy : (n : ℕ) → DiskState → Type 0
EndsBy n s = (db w : List ℕ) → IsImage s.sector s.tears s.db db → MayBeRead wal_log s w → IsFront (named_size w) w 0 → length db ≡ n

-- n bytes are those of the database that the log w shows with the file: with no front, of the file
pub record IsLengthOf (size : ℕ) (w : List ℕ) (n : ℕ) (s : DiskState) : Type 0 where
  pub none : IsFront (named_size w) w 0 → IsLong n s
  pub some : (m : ℕ) → 1 ≤ m → IsFront (named_size w) w m → n ≡ size_of (named_size w) w m * size

-- Where nothing of the log was unsynced: a file of whole pages, as many as the database has that file and log show, is
-- never left without a log in another length.
abbrev pub KeepsLength : (size : ℕ) (old new : DiskState) → Type 0
KeepsLength size old new = (w : List ℕ) (n : ℕ) → IsLogDurable old w → IsLengthOf size w n old → EndsBy n new
