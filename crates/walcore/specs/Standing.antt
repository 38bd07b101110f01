-- What an engine keeps on its disk, whatever a crash leaves of it (fileformat2, 4.3 and 4.5; that a crash leaves no less is own).
use Rattle.std.specs.Prelude.{◌≡◌, ℕ, ◌*◌, ◌/◌, ◌<◌, ◌≤◌, true, false, List, length, take, get_or, []}
use Rattle.std.specs.List.{Contains}
use Rattle.sqval.specs.Database.{Database}
use Rattle.sqwal.specs.Header.{IsHeader, named_size}
use Rattle.sqwal.specs.Frames.{frame_end}
use Rattle.crashdisk.specs.State.{IsImage, byte}
use Rattle.crashdisk.specs.Call.{DiskState}
use Rattle.crashdisk.specs.Facts.{HasFixed}
use Rattle.walcore.specs.Alone.{wal_log}
use Rattle.crashdisk.specs.Keeps.{Suits}
use Rattle.walcore.specs.Made.{AreMade, NoChance}
use Rattle.walcore.specs.Era.{IsBoundary, IsEra, IsUnder}
use Rattle.recovery.specs.Logs.{MayBeRead, ShowsWhole}

-- Whatever is left of the log, where no chance put it together, shows with whatever is left of the file one database of
-- the history, at the floor or later.
abbrev pub ShowsHistory : (size : ℕ) (logs : List (List ℕ)) (h : List Database) (floor : ℕ) → DiskState → Type 0
ShowsHistory size logs h floor s = (w : List ℕ) → MayBeRead wal_log s w → NoChance logs w
    → (k : ℕ) × (floor ≤ k) × (k < length h) × ((db : List ℕ) → IsImage s.sector s.tears s.db db → ShowsWhole wal_log size db w (get_or h k []))

-- each valid header that is left was made
abbrev pub HasMadeHeader : List (List ℕ) → DiskState → Type 0
HasMadeHeader logs s = (w : List ℕ) → MayBeRead wal_log s w → IsHeader (named_size w) w → (e : List ℕ) × Contains logs e × (take 32 w ≡ take 32 e)

-- The frames 1 to d of the log e are durable: each list of listed values has them, and, but for the header alone, whatever
-- a disk that tears leaves. On such a disk the header stands in what was kept, and no piece that was handed over holds
-- its place.
pub record HoldsFrames (size : ℕ) (e : List ℕ) (d : ℕ) (s : DiskState) : Type 0 where
  pub listed : HasFixed s.sector false s.log 0 (take (frame_end size d) e)
  pub torn : s.tears ≡ true → 1 ≤ d → HasFixed s.sector true s.log 0 (take (frame_end size d) e)
  pub kept : s.tears ≡ true → take 32 s.kept ≡ take 32 e
  pub handed : s.tears ≡ true → (write : ℕ × List ℕ) → Contains s.handed write → 32 ≤ write.0

-- The place of a write of the log lies behind the frames that are durable; on a disk that tears so does its sector, unless no
-- frame is durable.
pub record IsBehind (size d at : ℕ) (s : DiskState) : Type 0 where
  pub behind : frame_end size d ≤ at
  pub apart : s.tears ≡ true → 1 ≤ d → frame_end size d ≤ at / s.sector * s.sector

-- Of the n frames of a log 1 to d are durable, and checkpoints up to frame c were begun.
pub record AreMarks (size : ℕ) (e : List ℕ) (n d c : ℕ) : Type 0 where
  pub durable : d ≤ n
  pub durable_ends : IsBoundary size e d
  pub begun : c ≤ d
  pub begun_ends : IsBoundary size e c

-- The engine's disk in the era of the log e.
pub record Stands (size : ℕ) (logs : List (List ℕ)) (e : List ℕ) (n : ℕ) (h : List Database) (index : ℕ → ℕ) (mark d c : ℕ) (s : DiskState) : Type 0 where
  pub suits : Suits size s
  pub are_made : AreMade size logs
  pub in_made : Contains logs e
  pub era : IsEra size e n mark h index
  pub marks : AreMarks size e n d c
  pub log : HoldsFrames size e d s
  pub file : (db : List ℕ) → IsImage s.sector s.tears s.db db → IsUnder size e h index c db

-- all frames are there to be read
pub record IsPresent (size : ℕ) (e : List ℕ) (n : ℕ) (s : DiskState) : Type 0 where
  pub long : frame_end size n ≤ s.log.len
  pub each : (i : ℕ) → i < frame_end size n → byte s.log i ≡ get_or e i 0
