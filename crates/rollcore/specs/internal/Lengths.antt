-- How long the file is that may be left, while a journal is replayed into it (own).
use Rattle.std.specs.Prelude.{ℕ, ◌*◌, length}
use Rattle.sqval.specs.Database.{Database}
use Rattle.crashdisk.specs.Call.{DiskState}
use Rattle.recovery.specs.Logs.{ShowsAlone}
use Rattle.rollcore.specs.Alone.{journal_log}
use Rattle.rollcore.specs.Lengths.{EndsBy}

-- all that may be left shows one database, in a file of its length
pub record ShowsOne (size : ℕ) (d : Database) (s : DiskState) : Type 0 where
  pub alone : ShowsAlone journal_log size d s
  pub ends : EndsBy (length d * size) s
