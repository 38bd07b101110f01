-- What the steps of an opening and of a restart do to a disk (own).
use Rattle.std.specs.Prelude.{◌≡◌, ◌⊎◌, ℕ, ◌+◌, ◌*◌, ◌<◌, ◌≤◌, true, false, IsTrue, List, length, Result, Ok, Err, IsErr, OnOk, IfErr, []}
use Rattle.sqwal.specs.Header.{IsHeaderOf, named_size}
use Rattle.sqwal.specs.Frames.{summed, IsFront}
use Rattle.sqwal.specs.Sums.{IsSumOf}
use Rattle.crashdisk.specs.State.{IsImage}
use Rattle.crashdisk.specs.Call.{DiskState, Writes}
use Rattle.crashdisk.specs.declared.file.File.TheVariants.{Log}
use Rattle.crashdisk.specs.declared.error.DiskError.{DiskError}
use Rattle.sqval.specs.CommitFaults.{most_bytes}
use Rattle.walcore.specs.Alone.{Show, wal_log}
use Rattle.sqval.specs.Answers.{Files}
use Rattle.walcore.specs.Made.{IsBegun, NoChance}
use Rattle.walcore.specs.Folding.{FoldAnswer}
use Rattle.walcore.specs.Plans.{IsFit}
use Rattle.walcore.specs.internal.Steps.{FoldCalls}
use Rattle.crashdisk.specs.Keeps.{HadRefusal, TearsPages, IsLogDurable, Later}
use Rattle.crashdisk.specs.internal.Keeps.{Told, SyncStep}
use Rattle.sqval.specs.Held.{IsJust}
use Rattle.walcore.specs.Changes.{MayFold}
use Rattle.walcore.specs.Fits.{Past, IsLeft, FitsDisk}
use Rattle.walcore.specs.declared.opening.NewLog.{NewLog}
use Rattle.walcore.specs.declared.state.Core.{Core}
use Rattle.walcore.specs.declared.error.WalError.{WalError}
use Rattle.walcore.specs.declared.error.WalError.TheVariants.{TooLarge, PageSize, NoMemory, Device}
use Rattle.recovery.specs.Files.{AreFiles}
use Rattle.recovery.specs.internal.Steps.{MayRefuse}
use Rattle.recovery.specs.Logs.{Agrees}
use Rattle.recovery.specs.Histories.{at, last}
use Rattle.walcore.specs.Opening.{IsCounted, OpenRefused, MayOpen, OpensSynced}

-- a log of a header alone, with this sequence and these salts
pub record IsNewLog (size sequence salt1 salt2 : ℕ) (l : NewLog) : Type 0 where
  pub begun : IsBegun size sequence salt1 salt2 l.bytes
  pub page_size : l.header.page_size ≡ size
  pub header : IsHeaderOf l.bytes l.header
  pub sum : IsSumOf l.header.order (summed size l.bytes 0) l.sum

-- these bytes are written over the front of the log, which is then synced
abbrev pub HeaderSteps : {T : Type 0} → List ℕ → Result T WalError → (old new : DiskState) → Type 0
HeaderSteps {T = T} f result old new =
    ((called : Result T DiskError) × IsErr called × Told Device called result × Writes Log 0 f called old new)
    ⊎ ((mid : DiskState) × ((done : T) × Writes Log 0 f (Ok done) old mid) × SyncStep Device Log result mid new)

-- how many pages a file of so many bytes has
abbrev pub CountAnswer : (size long : ℕ) → Result ℕ WalError → (old new : DiskState) → Type 0
CountAnswer size long (Ok n) old new = (1 ≤ n) × (n * size ≡ long) × (long ≤ most_bytes)
CountAnswer size long (Err TooLarge) old new = most_bytes < long
CountAnswer size long (Err PageSize) old new = (long ≤ most_bytes) × ((n : ℕ) → 1 ≤ n → n * size ≡ long → ⊥)
CountAnswer size long (Err Device) old new = HadRefusal old new
CountAnswer size long (Err _) old new = ⊥

-- what is judged before anything is written
abbrev pub FileJudged : {T : Type 0} → (size : ℕ) → (db w : List ℕ) → Result T WalError → (old new : DiskState) → Type 0
FileJudged size db w (Ok _) old new = IsFront (named_size w) w 0 → IsCounted size (length db)
FileJudged size db w (Err e) old new = OpenRefused size db w e old new

-- the same, where the file has this fault
abbrev pub FrontJudged : {T : Type 0} → (size : ℕ) → List ℕ → (fault : WalError) → Result T WalError → (old new : DiskState) → Type 0
FrontJudged size w fault (Ok _) old new = IsFront (named_size w) w 0 → ⊥
FrontJudged size w fault (Err e) old new = ((db : List ℕ) → FoldAnswer size db w (Err e) old new) ⊎ (IsFit size w × IsFront (named_size w) w 0 × (e ≡ fault))

-- What an opening has recovered: the database at this place of the history, which the found files show, is all that any
-- file that may be left is, and the log is empty.
pub record IsRecovered (past : Past) (found : Files) (pages : ℕ) (s : DiskState) : Type 0 where
  pub place : ℕ
  pub floor : past.state.floor ≤ place
  pub within : place < length past.state.history
  pub newest : IsTrue past.state.is_open → place ≡ last past.state.history
  pub shown : Show past.state.page_size found.db found.log (at past.state.history place)
  pub durable : IsLogDurable s []
  pub file : (db : List ℕ) → IsImage s.sector s.tears s.db db → IsJust past.state.page_size (at past.state.history place) db
  pub count : pages ≡ length (at past.state.history place)

-- what the recovery of an opening answers, and what it leaves
abbrev pub RecoverAnswer : Past → Files → Result ℕ WalError → (old new : DiskState) → Type 0
RecoverAnswer past found (Ok n) old new = Later (MayFold past.state.page_size) old new × IsRecovered past found n new
RecoverAnswer past found (Err e) old new =
    Later (MayFold past.state.page_size) old new × MayRefuse NoMemory Device e old new × IsLeft past.state.page_size past.made.logs past.state.history past.state.floor new

-- what an open core holds of a log without frames
pub record IsNewCore (page_bytes pages : ℕ) (l : NewLog) (core : Core) : Type 0 where
  pub page_size : core.page_size ≡ page_bytes
  pub size : core.size ≡ pages
  pub is_open : core.is_open ≡ true
  pub drained : core.drained ≡ true
  pub header : core.header ≡ l.header
  pub sum : core.sum ≡ l.sum
  pub frames : core.frames ≡ 0
  pub mark : core.mark ≡ 0
  pub used : core.used ≡ 0
  pub unsynced : core.unsynced ≡ false
  pub no_pages : core.index.pages ≡ []
  pub marks : core.marks.items ≡ []
  pub frame : length core.frame.items ≡ 24 + page_bytes

-- What the recovery of an opening does. It asks for what a fold may, and tells that a call was refused. The database that
-- all which may be left shows stays shown, from the sync of the log on too; and a history that fits is recovered.
pub record Recovers (size : ℕ) (result : Result ℕ WalError) (old new : DiskState) : Type 0 where
  pub calls : FoldCalls size result old new
  pub agrees : Agrees wal_log size old new
  pub synced : OpensSynced size result old new
  pub empty : OnOk result (IsLogDurable new [])
  pub refuses : (TearsPages size old → ⊥) → (found : Files) → AreFiles old found → IfErr result (λ error. OpenRefused size found.db found.log error old new)
  pub opens : (TearsPages size old → ⊥) → (found : Files) → AreFiles old found → OnOk result (MayOpen size found old)
  pub recovered : (past : Past) (found : Files) → AreFiles old found → past.state.page_size ≡ size → FitsDisk past old → NoChance past.made.logs found.log → RecoverAnswer past found result old new
