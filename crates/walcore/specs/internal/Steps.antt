-- What the parts of a fold do to a disk (fileformat2, 4.3).
use Rattle.std.specs.Prelude.{◌≡◌, ◌⊎◌, ℕ, suc, Bool, false, List, Result, Ok, Err, IsErr, []}
use Rattle.sqval.specs.Database.{Database}
use Rattle.sqwal.specs.Header.{IsHeader, named_size}
use Rattle.sqwal.specs.Frames.{IsValidFrame}
use Rattle.sqval.specs.CommitFaults.{most_bytes}
use Rattle.sqwal.specs.Took.{TookWithin}
use Rattle.sqwal.specs.declared.scan.Scan.{Scan}
use Rattle.sqwal.specs.declared.error.WalFormatError.{WalFormatError}
use Rattle.sqwal.specs.declared.error.WalFormatError.TheVariants.{TooLong, NoMemory}
use Rattle.crashdisk.specs.State.{IsSettled}
use Rattle.crashdisk.specs.Call.{DiskState, ArePresent, Cuts}
use Rattle.crashdisk.specs.declared.file.File.TheVariants.{Log}
use Rattle.crashdisk.specs.declared.error.DiskError.{DiskError}
use Rattle.walcore.specs.Folding.{IsFolded}
use Rattle.crashdisk.specs.Keeps.{HadRefusal, IsLogDurable}
use Rattle.crashdisk.specs.internal.Keeps.{Told, SyncStep}
use Rattle.walcore.specs.internal.Phases.{Writing, Filed}
use Rattle.walcore.specs.declared.folding.Folded.{Folded}
use Rattle.walcore.specs.declared.error.WalError.{WalError}
use Rattle.walcore.specs.declared.error.WalError.TheVariants.{TooLarge, NoMemory as WalNoMemory, Device}
use Rattle.recovery.specs.Files.{ArePages}
use Rattle.recovery.specs.Scanning.{ScanKind}
use Rattle.walcore.specs.Steps.{FoldCallsWithin}

-- ---- The scan.

-- why the scan of the log w is refused, which takes at most so many frames
unfoldable pub ScanRefused : (most : ℕ) → List ℕ → WalError → (old new : DiskState) → Type 0
ScanRefused most w TooLarge old new = IsValidFrame (named_size w) w (suc most)
ScanRefused most w WalNoMemory old new = Unit {0}
ScanRefused most w Device old new = HadRefusal old new
ScanRefused most w _ old new = ⊥

-- how a refusal of the scan is answered
abbrev pub IsWithoutHeader : WalFormatError → Result Bool WalError → Type 0
IsWithoutHeader TooLong r = r ≡ Err TooLarge
IsWithoutHeader NoMemory r = r ≡ Err WalNoMemory
IsWithoutHeader e r = r ≡ Ok false

-- the scan of a log, which takes at most so many frames; a log with a valid header counts
abbrev pub wal_scan : (most : ℕ) → ScanKind Scan WalError
wal_scan most = record { Took = TookWithin most; Read = TookWithin most; Counts = λ w. IsHeader (named_size w) w; Refused = ScanRefused most }

-- ---- The end.

-- the log's length is set to 0, and it is synced
abbrev pub CutSteps : {T : Type 0} → Result T WalError → (old new : DiskState) → Type 0
CutSteps {T = T} result old new =
    ((called : Result T DiskError) × IsErr called × Told Device called result × Cuts Log 0 called old new)
    ⊎ ((mid : DiskState) × ((done : T) × Cuts Log 0 (Ok done) old mid) × SyncStep Device Log result mid new)

-- the pages are in the file, or there were none to write: so far the log is as it was
abbrev pub Copied : (size : ℕ) (w : List ℕ) (m : ℕ) (d : Database) → DiskState → Type 0
Copied size w m d s = (Writing size w m d s × ArePages size d s.db) ⊎ Filed size d w s

-- the database is durable, and the log is durable and empty
unfoldable pub EndAnswer : {T : Type 0} → Result T WalError → (old new : DiskState) → Type 0
EndAnswer (Ok _) old new = ((db : List ℕ) → ArePresent old.db db → IsSettled new.db db) × IsLogDurable new []
EndAnswer (Err e) old new = (e ≡ Device) × HadRefusal old new

-- what is planned was folded
unfoldable pub FoldedAnswer : (size : ℕ) (db w : List ℕ) → Result Folded WalError → (old new : DiskState) → Type 0
FoldedAnswer size db w (Ok f) old new = IsFolded size db w f new
FoldedAnswer size db w (Err e) old new = (e ≡ Device) × HadRefusal old new

-- at the usual limit
abbrev pub FoldCalls : {T : Type 0} → (size : ℕ) → Result T WalError → (old new : DiskState) → Type 0
FoldCalls size result old new = FoldCallsWithin most_bytes size result old new
