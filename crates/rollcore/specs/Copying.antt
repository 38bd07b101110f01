-- What the calls of a replay answer, in one record each (fileformat2, 3).
use Rattle.std.specs.Prelude.{ℕ, List, Result}
use Rattle.sqval.specs.Bytes.{word}
use Rattle.sqval.specs.CommitFaults.{most_bytes}
use Rattle.crashdisk.specs.Call.{DiskState, ArePresent}
use Rattle.rollcore.specs.Changes.{MayReplayWithin, Asks}
use Rattle.rollcore.specs.Lengths.{KeepsLength}
use Rattle.rollcore.specs.Replaying.{Replays}
use Rattle.rollcore.specs.declared.replaying.Replayed.{Replayed}
use Rattle.rollcore.specs.declared.error.RollError.{RollError}
use Rattle.recovery.specs.Steps.{SyncsFirst}
use Rattle.rollcore.specs.declared.error.RollError.TheVariants.{Device}
use Rattle.recovery.specs.Logs.{Agrees}
use Rattle.rollcore.specs.Alone.{journal_log}

-- the journal is replayed into a database of at most so many bytes, without a sync before
pub record ReplaysSyncedWithin (most : ℕ) (result : Result Replayed RollError) (old new : DiskState) : Type 0 where
  pub replays : Replays most result old new
  pub agrees : (size : ℕ) → Agrees journal_log size old new
  pub lengths : KeepsLength old new
  pub asks : (w : List ℕ) → ArePresent old.log w → Asks (MayReplayWithin most (word w 24)) result old new

-- the same at the usual limit
abbrev pub ReplaysSynced : Result Replayed RollError → (old new : DiskState) → Type 0
ReplaysSynced result old new = ReplaysSyncedWithin most_bytes result old new

-- The journal is synced and replayed, into a database of at most so many bytes. Where nothing of it was unsynced, one
-- database that a crash would leave stays so (agrees), and a file beside a cold journal keeps its length (lengths). It
-- asks for pages of the size that the journal names.
pub record ReplaysFileWithin (most : ℕ) (result : Result Replayed RollError) (old new : DiskState) : Type 0 where
  pub replays : Replays most result old new
  pub agrees : (size : ℕ) → Agrees journal_log size old new
  pub lengths : KeepsLength old new
  pub synced : SyncsFirst Device (λ mid end. Replays most result mid end × ((size : ℕ) → Agrees journal_log size mid end)) result old new
  pub asks : (w : List ℕ) → ArePresent old.log w → Asks (MayReplayWithin most (word w 24)) result old new

-- the same at the usual limit
abbrev pub ReplaysFile : Result Replayed RollError → (old new : DiskState) → Type 0
ReplaysFile result old new = ReplaysFileWithin most_bytes result old new
