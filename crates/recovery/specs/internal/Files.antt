-- Which bytes and pages stand in the files of a disk (own).
use Rattle.std.specs.Prelude.{ℕ, List}
use Rattle.sqval.specs.Database.{Database, IsFile}
use Rattle.crashdisk.specs.State.{IsImage}
use Rattle.crashdisk.specs.Call.{DiskState}

-- each database file that a crash may leave has the pages of d
abbrev pub IsFiled : (size : ℕ) (d : Database) → DiskState → Type 0
IsFiled size d s = (db : List ℕ) → IsImage s.sector s.tears s.db db → IsFile size db d
