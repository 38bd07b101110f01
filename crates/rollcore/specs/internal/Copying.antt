-- What the calls of a replay answer, in one record each (fileformat2, 3).
use Rattle.std.specs.Prelude.{◌≡◌, ℕ, ◌*◌, ◌<◌, ◌≤◌, true, List, Result}
use Rattle.sqval.specs.Bytes.{word}
use Rattle.sqval.specs.Database.{Database}
use Rattle.sqval.specs.Held.{IsHeld}
use Rattle.sqjournal.specs.Journal.{IsHot}
use Rattle.sqjournal.specs.Restored.{IsRolledBack}
use Rattle.sqjournal.specs.declared.replay.Replay.{Replay}
use Rattle.crashdisk.specs.State.{IsSectorSize, longest}
use Rattle.crashdisk.specs.Call.{DiskState, ArePresent}
use Rattle.crashdisk.specs.Keeps.{IsLogDurable}
use Rattle.crashdisk.specs.internal.Keeps.{KeepsLog}
use Rattle.rollcore.specs.Changes.{MayReplayWithin, Asks}
use Rattle.rollcore.specs.internal.Commits.{PutAnswer}
use Rattle.rollcore.specs.Lengths.{EndsBy}
use Rattle.rollcore.specs.internal.Phases.{Writing}
use Rattle.recovery.specs.internal.Phases.{Unwritten}
use Rattle.rollcore.specs.internal.Plans.{IsPlan, IsFit, IsPlanWithin}
use Rattle.rollcore.specs.internal.Segments.{Journaled}
use Rattle.rollcore.specs.internal.Steps.{HasRead, EndAnswer, RolledAnswer, torn_sector}
use Rattle.rollcore.specs.declared.plan.Plan.{Plan}
use Rattle.rollcore.specs.declared.replaying.Replayed.{Replayed}
use Rattle.rollcore.specs.declared.error.RollError.{RollError}
use Rattle.recovery.specs.Files.{ArePages}
use Rattle.recovery.specs.Steps.{CopyAnswer}
use Rattle.rollcore.specs.declared.error.RollError.TheVariants.{Device}
use Rattle.recovery.specs.Logs.{ShowsAlone}
use Rattle.rollcore.specs.Alone.{journal_log}

-- the pages of all entries are copied, and the length is set to so many
pub record CopiesRecords {T : Type 0} (size : ℕ) (scan : Replay) (count : ℕ) (result : Result T RollError) (old new : DiskState) : Type 0 where
  pub log : KeepsLog old new
  pub asks : (most : ℕ) → count * size ≤ most → Asks (MayReplayWithin most size) result old new
  pub pages : (db w : List ℕ) (d : Database) → ArePresent old.db db → ArePresent old.log w → HasRead w scan → IsHot w → size ≡ word w 24 → count ≡ word w 16 → count * size ≤ longest → IsRolledBack db w d → CopyAnswer Device size d result old new
  pub writing : (w : List ℕ) (d : Database) → ArePresent old.log w → HasRead w scan → count * size ≤ longest → count ≡ word w 16 → Writing size w d old → Writing size w d new

-- The database is synced, and then the journal is ended: of a replay (shows, lengths), or of a commit that makes e of d.
pub record Finishes {T : Type 0} (result : Result T RollError) (old new : DiskState) : Type 0 where
  pub asks : (most size : ℕ) → Asks (MayReplayWithin most size) result old new
  pub ends : EndAnswer result old new
  pub shows : (size : ℕ) (w : List ℕ) (d : Database) → Writing size w d old → ArePages size d old.db → ShowsAlone journal_log size d new
  pub lengths : IsSectorSize old.sector → (w : List ℕ) → IsLogDurable old w → IsHot w → (old.tears ≡ true → old.sector ≤ word w 20) → EndsBy old.db.len new
  pub commit : (size sector : ℕ) (d e : Database) (named : List ℕ) (place : ℕ) (w : List ℕ)
      → Journaled size sector d named place w old → 0 < place → ArePages size e old.db → IsHeld size e → PutAnswer size d e result old new

-- what is planned is replayed
pub record ReplaysPlan (plan : Plan) (result : Result Replayed RollError) (old new : DiskState) : Type 0 where
  pub asks : (most : ℕ) → IsPlanWithin most plan → Asks (MayReplayWithin most plan.header.page_size) result old new
  pub replays : (db w : List ℕ) (torn : ℕ) → ArePresent old.db db → ArePresent old.log w → IsFit torn w → IsPlan w plan → RolledAnswer db w result old new
  pub shows : IsSectorSize old.sector → (size : ℕ) (w : List ℕ) (d : Database) → Unwritten journal_log size d w old → IsFit (torn_sector old) w → IsPlan w plan → ShowsAlone journal_log size d new
  pub ends : IsSectorSize old.sector → (w : List ℕ) → IsLogDurable old w → IsFit (torn_sector old) w → IsPlan w plan → EndsBy (word w 16 * word w 24) new
