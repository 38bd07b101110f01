-- How long the file is that may be left, while a journal is replayed into it (own).
use Rattle.std.specs.Prelude.{◌≡◌, ℕ, ◌*◌, List, length}
use Rattle.sqval.specs.Bytes.{word}
use Rattle.sqjournal.specs.Journal.{IsHot}
use Rattle.crashdisk.specs.State.{IsImage}
use Rattle.crashdisk.specs.Call.{DiskState}
use Rattle.crashdisk.specs.Keeps.{IsLogDurable}
use Rattle.rollcore.specs.Fits.{NamesSectors}
use Rattle.recovery.specs.Logs.{MayBeRead}
use Rattle.rollcore.specs.Alone.{journal_log}

-- wherever the journal that is left isn't hot the file has n bytes; one that is hot names no smaller sectors
pub record EndsBy (n : ℕ) (s : DiskState) : Type 0 where
  pub cold : (db w : List ℕ) → IsImage s.sector s.tears s.db db → MayBeRead journal_log s w → (IsHot w → ⊥) → length db ≡ n
  pub sectors : NamesSectors s

-- where nothing of the log was unsynced: a file that is as long as the database that is restored is never left in
-- another length without a hot journal
abbrev pub KeepsLength : (old new : DiskState) → Type 0
KeepsLength old new = (w : List ℕ) (n : ℕ) → IsLogDurable old w → (IsHot w → n ≡ word w 16 * word w 24) → EndsBy n old → EndsBy n new
