-- What a checkpoint brings into the database file (fileformat2, 4.3).
use Rattle.std.specs.Prelude.{◌≡◌, ◌⊎◌, ℕ, ◌≤◌, List, Some, Result, OnOk}
use Rattle.sqval.specs.Database.{Database}
use Rattle.crashdisk.specs.State.{IsImage}
use Rattle.crashdisk.specs.Call.{DiskState}
use Rattle.sqval.specs.Answers.{Answer, Complete, Partial}
use Rattle.walcore.specs.Machine.{State, Checkpoints, reader_at}
use Rattle.sqval.specs.Held.{IsJust}
use Rattle.walcore.specs.Fits.{Past, FitsCore, Takes}
use Rattle.walcore.specs.Uncommitted.{KeepsUncommitted}
use Rattle.walcore.specs.declared.state.Core.{Core}
use Rattle.walcore.specs.declared.wal.Checkpointed.{Checkpointed}
use Rattle.walcore.specs.declared.wal.Checkpointed.TheVariants.{Complete as AllOfIt, Partial as PartOfIt}
use Rattle.walcore.specs.declared.error.WalError.{WalError}
use Rattle.recovery.specs.Moments.{answered}
use Rattle.walcore.specs.Refusal.{number_of}
use Rattle.recovery.specs.Histories.{at, last}

abbrev pub answer_of : Checkpointed → Answer
answer_of AllOfIt = Complete
answer_of PartOfIt = Partial

-- the place of the oldest open reader, or the newest where none is open
pub record IsOldest (s : State) (i : ℕ) : Type 0 where
  pub least : (reader j : ℕ) → reader_at s reader ≡ Some j → i ≤ j
  pub is : (i ≡ last s.history) ⊎ ((reader : ℕ) × (reader_at s reader ≡ Some i))

-- each database file that a crash may leave is just this database
abbrev pub LeavesJust : (size : ℕ) → Database → DiskState → Type 0
LeavesJust size d s = (db : List ℕ) → IsImage s.sector s.tears s.db db → IsJust size d db

-- What a checkpoint does: a row of the machine; where it is done, any crash leaves just the oldest reader's database; and
-- what it keeps before the first commit.
pub record BringsOldest (result : Result Checkpointed WalError) (old new : Core) (before after : DiskState) : Type 0 where
  pub step : Takes Checkpoints (answered number_of answer_of result) old new before after
  pub file : (past : Past) (i : ℕ) → FitsCore past old before → IsOldest past.state i → OnOk result (LeavesJust past.state.page_size (at past.state.history i) after)
  pub agrees : KeepsUncommitted result old new before after
