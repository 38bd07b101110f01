-- What a checkpoint brings into the database file (fileformat2, 4.3).
use Rattle.std.specs.Prelude.{◌≡◌, ◌⊎◌, ℕ, ◌<◌, ◌≤◌, false, IsTrue, List, length, get_or, Result, Ok, Err}
use Rattle.sqval.specs.Database.{Database}
use Rattle.sqwal.specs.Frames.{frame_end, size_of}
use Rattle.sqwal.specs.Index.{FrameTable}
use Rattle.crashdisk.specs.Call.{DiskState, HasCalls}
use Rattle.sqval.specs.Answers.{HasCause}
use Rattle.walcore.specs.Machine.{closed, checkpointed, CheckpointStep}
use Rattle.crashdisk.specs.Keeps.{HadRefusal, Still, TellsRefusal, IsSameDisk}
use Rattle.crashdisk.specs.internal.Keeps.{KeepsLog}
use Rattle.walcore.specs.Changes.{MayFill}
use Rattle.walcore.specs.Era.{IsBoundary, shown}
use Rattle.walcore.specs.Standing.{Stands, IsPresent}
use Rattle.walcore.specs.Fits.{Past, IsIndexed, FitsDisk, FitsCore}
use Rattle.walcore.specs.declared.state.Core.{Core}
use Rattle.walcore.specs.declared.wal.Checkpointed.{Checkpointed}
use Rattle.walcore.specs.declared.error.WalError.{WalError}
use Rattle.walcore.specs.declared.error.WalError.TheVariants.{Device}
use Rattle.recovery.specs.Histories.{at, last}
use Rattle.walcore.specs.Bringing.{answer_of, IsOldest, LeavesJust}

-- the least of the marks and the newest one
pub record IsLeast (marks : List ℕ) (newest least : ℕ) : Type 0 where
  pub low : least ≤ newest
  pub each : (k : ℕ) → k < length marks → least ≤ get_or marks k 0
  pub is : (least ≡ newest) ⊎ ((k : ℕ) × (k < length marks) × (get_or marks k 0 ≡ least))

-- the size of the database that ends with this frame of a log was read
unfoldable pub SizeAnswer : (size frame : ℕ) → Result ℕ WalError → (old new : DiskState) → Type 0
SizeAnswer size frame (Ok n) old new = Still old new × ((e : List ℕ) (k : ℕ) → IsPresent size e k old → frame_end size k ≤ length e → frame ≤ k → n ≡ size_of size e frame)
SizeAnswer size frame (Err x) old new = Still old new × (x ≡ Device) × ((e : List ℕ) (k : ℕ) → IsPresent size e k old → frame ≤ k → HadRefusal old new)

-- the frames of a log are there to be read, in a table, durable up to d and brought over up to c
pub record CanBring (size : ℕ) (logs : List (List ℕ)) (e : List ℕ) (n : ℕ) (h : List Database) (index : ℕ → ℕ) (mark d c : ℕ) (t : FrameTable) (s : DiskState) : Type 0 where
  pub stands : Stands size logs e n h index mark d c s
  pub present : IsPresent size e n s
  pub table : IsIndexed size e n t

-- The database at a frame m of the log was brought over; what stood on the disk stands, with checkpoints begun up to there.
abbrev pub BroughtTo : {T : Type 0} → (size : ℕ) (logs : List (List ℕ)) (e : List ℕ) (n : ℕ) (h : List Database) (index : ℕ → ℕ) (mark d m : ℕ) → Result T WalError → (old new : DiskState) → Type 0
BroughtTo size logs e n h index mark d m (Ok _) old new = Stands size logs e n h index mark d m new × LeavesJust size (shown h index m) new
BroughtTo size logs e n h index mark d m (Err x) old new = (x ≡ Device) × HadRefusal old new × ((c : ℕ) × Stands size logs e n h index mark d c new)

-- at a boundary that is durable, and that no checkpoint went beyond; by whole pages
abbrev pub Brings : {T : Type 0} → (size m : ℕ) → FrameTable → Result T WalError → (old new : DiskState) → Type 0
Brings size m t result old new = (logs : List (List ℕ)) (e : List ℕ) (n : ℕ) (h : List Database) (index : ℕ → ℕ) (mark d c : ℕ)
    → CanBring size logs e n h index mark d c t old → IsBoundary size e m → c ≤ m → m ≤ d → BroughtTo size logs e n h index mark d m result old new × HasCalls (MayFill size) old new

-- The database at a frame m of a log is brought over; no call asked for a change of the log, and one that was refused is told.
pub record BringsOver {T : Type 0} (size m : ℕ) (t : FrameTable) (result : Result T WalError) (old new : DiskState) : Type 0 where
  pub log : KeepsLog old new
  pub told : TellsRefusal Device result old new
  pub brings : Brings size m t result old new

-- The last step of a checkpoint, after the sync of the log.
abbrev pub BroughtOver : Past → Result Checkpointed WalError → (core core_new : Core) → (old new : DiskState) → Type 0
BroughtOver past (Ok done) core core_new old new =
    (new.refused ≡ old.refused)
    × CheckpointStep past.state (answer_of done) old.refused new.refused (checkpointed past.state)
    × FitsCore (record { state = checkpointed past.state; made = past.made; tokens = past.tokens }) core_new new
    × ((i : ℕ) → IsOldest past.state i → LeavesJust past.state.page_size (at past.state.history i) new)
    × IsSameDisk (MayFill past.state.page_size) old new
BroughtOver past (Err x) core core_new old new =
    (old.refused ≤ new.refused)
    × (x ≡ Device) × HasCause old.refused new.refused
    × FitsDisk (record { state = closed past.state; made = past.made; tokens = past.tokens }) new
    × (core_new.page_size ≡ core.page_size) × (core_new.marks.items ≡ core.marks.items) × IsSameDisk (MayFill past.state.page_size) old new

-- of each past that fits a core whose commits are durable
abbrev pub BringsDatabase : Result Checkpointed WalError → (old new : Core) → (before after : DiskState) → Type 0
BringsDatabase result old new before after = (past : Past) → FitsCore past old before → IsTrue old.is_open → past.state.floor ≡ last past.state.history → past.made.unsynced ≡ false
    → BroughtOver past result old new before after

-- a core is closed where its call was refused
abbrev pub ClosedBy : {T : Type 0} → Result T WalError → (old new : Core) → Type 0
ClosedBy (Ok _) old new = new ≡ old
ClosedBy (Err _) old new = (new.is_open ≡ false) × (new.page_size ≡ old.page_size) × (new.marks.items ≡ old.marks.items)
