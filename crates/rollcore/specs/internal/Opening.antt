-- What the steps of an opening do to a disk (own).
use Rattle.std.specs.Prelude.{◌≡◌, ◌≢◌, ◌⊎◌, ℕ, ◌*◌, ◌<◌, ◌≤◌, true, false, Bool, IsTrue, List, ◌∷◌, length, Result, Ok, Err, OnOk, IfErr, MatchResult, []}
use Rattle.sqval.specs.Bytes.{word}
use Rattle.sqval.specs.CommitFaults.{most_bytes}
use Rattle.sqval.specs.Database.{Database}
use Rattle.sqval.specs.Held.{IsHeld}
use Rattle.sqjournal.specs.Header.{HasMagic}
use Rattle.sqjournal.specs.Journal.{IsHot}
use Rattle.crashdisk.specs.State.{IsSectorSize}
use Rattle.crashdisk.specs.Call.{DiskState, ArePresent, Writes}
use Rattle.crashdisk.specs.declared.file.File.TheVariants.{Log}
use Rattle.crashdisk.specs.declared.error.DiskError.{DiskError}
use Rattle.crashdisk.specs.Keeps.{Suits, HadRefusal, IsLogDurable, Still, TellsRefusal}
use Rattle.sqval.specs.Answers.{Files}
use Rattle.rollcore.specs.Changes.{MayRecover, Asks}
use Rattle.rollcore.specs.Alone.{Show, journal_log}
use Rattle.rollcore.specs.Machine.{State}
use Rattle.rollcore.specs.Fits.{ShowsHistory, NamesSectors, Rests, FitsDisk}
use Rattle.rollcore.specs.declared.state.Core.{Core}
use Rattle.rollcore.specs.internal.Lengths.{ShowsOne}
use Rattle.rollcore.specs.declared.error.RollError.{RollError}
use Rattle.rollcore.specs.declared.error.RollError.TheVariants.{TooLarge, PageSize, NoMemory, Device}
use Rattle.recovery.specs.Files.{AreFiles}
use Rattle.recovery.specs.internal.Steps.{MayRefuse}
use Rattle.recovery.specs.Logs.{MayBeRead, Agrees}
use Rattle.recovery.specs.Histories.{at, last}
use Rattle.rollcore.specs.Opening.{LosesMagic, RefusedFor, MayOpen, LeavesFiles, AgreesSynced, RefusedSynced}

-- how many pages a file of so many bytes has
abbrev pub CountAnswer : (size long : ℕ) → Result ℕ RollError → (old new : DiskState) → Type 0
CountAnswer size long (Ok n) old new = (1 ≤ n) × (n * size ≡ long) × (long ≤ most_bytes)
CountAnswer size long (Err PageSize) old new = (long ≤ most_bytes) × ((n : ℕ) → 1 ≤ n → n * size ≡ long → ⊥)
CountAnswer size long (Err TooLarge) old new = most_bytes < long
CountAnswer size long (Err Device) old new = HadRefusal old new
CountAnswer size long (Err _) old new = ⊥

-- whether a hot journal names this page size and a database of pages
abbrev pub SizeJudged : {T : Type 0} → (size : ℕ) → List ℕ → Result T RollError → Type 0
SizeJudged size w (Ok _) = (word w 24 ≡ size) × (1 ≤ word w 16)
SizeJudged size w (Err PageSize) = (word w 24 ≢ size) ⊎ (word w 16 ≡ 0)
SizeJudged size w (Err _) = ⊥

-- a zero byte was written at this place of the log, where a magic stood
pub record PutsZero {T : Type 0} (at : ℕ) (called : Result T DiskError) (old new : DiskState) : Type 0 where
  pub mid : DiskState
  pub still : Still old mid
  pub magic : (w : List ℕ) → ArePresent old.log w → HasMagic w at
  pub wrote : Writes Log at (0 ∷ []) called mid new

-- whether a magic stood at this place of the log, whose first byte is then a zero
abbrev pub BreakSteps : (at : ℕ) → Result Bool RollError → (old new : DiskState) → Type 0
BreakSteps at (Ok true) old new = PutsZero {T = Unit {0}} at (Ok tt) old new
BreakSteps at (Ok false) old new = Still old new × ((w : List ℕ) → ArePresent old.log w → HasMagic w at → ⊥)
BreakSteps at (Err e) old new = (e ≡ Device) × HadRefusal old new × (Still old new ⊎ ((called : Result (Unit {0}) DiskError) × PutsZero at called old new))

-- no log that may be read is hot
abbrev pub AreCold : DiskState → Type 0
AreCold s = (w : List ℕ) → MayBeRead journal_log s w → IsHot w → ⊥

-- no header begins at the front of the log that is durable, which was w
pub record FrontAnswer {T : Type 0} (w : List ℕ) (result : Result T RollError) (old new : DiskState) : Type 0 where
  pub cold : AreCold new
  pub done : OnOk result ((v : List ℕ) × IsLogDurable new v × LosesMagic w v)
  pub refused : IfErr result (λ e. (e ≡ Device) × HadRefusal old new)

-- what the recovery of d answers and leaves
abbrev pub RecoverAnswer : (size : ℕ) → Database → Result ℕ RollError → (old new : DiskState) → Type 0
RecoverAnswer size d (Ok n) old new = (n ≡ length d) × Rests size d new
RecoverAnswer size d (Err e) old new = MayRefuse NoMemory Device e old new × ShowsOne size d new

-- What an opening has recovered: the database at this place of the history, which the found files show, is at rest.
pub record IsRecovered (past : State) (found : Files) (pages : ℕ) (s : DiskState) : Type 0 where
  pub place : ℕ
  pub floor : past.floor ≤ place
  pub within : place < length past.history
  pub newest_is : IsTrue past.is_open → place ≡ last past.history
  pub shown : Show past.page_size found.db found.log (at past.history place)
  pub rests : Rests past.page_size (at past.history place) s
  pub count : pages ≡ length (at past.history place)

-- what the recovery of an opening answers, and what it leaves
abbrev pub RecoveredAt : State → Files → Result ℕ RollError → (old new : DiskState) → Type 0
RecoveredAt past found (Ok n) old new = Asks (MayRecover past.page_size) (Ok n) old new × IsRecovered past found n new
RecoveredAt past found (Err e) old new = Asks {T = ℕ} (MayRecover past.page_size) (Err e) old new × MayRefuse NoMemory Device e old new × ShowsHistory past.page_size past.history past.floor new × NamesSectors new

-- what an open core holds
pub record IsNewCore (page_bytes pages sector : ℕ) (core : Core) : Type 0 where
  pub page_size : core.page_size ≡ page_bytes
  pub size : core.size ≡ pages
  pub is_open : core.is_open ≡ true
  pub header_room : length core.header.items ≡ sector

-- ---- What is granted.

-- an opening of the file db with the journal w is granted, or refused
abbrev pub FilesAnswer : {T : Type 0} → (size : ℕ) (db w : List ℕ) → Result T RollError → (old new : DiskState) → Type 0
FilesAnswer size db w (Ok _) old new = MayOpen size db w old × LeavesFiles db w old new
FilesAnswer size db w (Err e) old new = RefusedFor size db w e old new

-- ---- What the steps of an opening answer, in one record each.

-- a magic that stands at a place of the log is broken, and a call that was refused is told
pub record BreaksMagic (at : ℕ) (result : Result Bool RollError) (old new : DiskState) : Type 0 where
  pub steps : BreakSteps at result old new
  pub told : TellsRefusal Device result old new

-- no magic is left at the front of a log that isn't hot
pub record BreaksFront {T : Type 0} (result : Result T RollError) (old new : DiskState) : Type 0 where
  pub asks : (size : ℕ) → Asks (MayRecover size) result old new
  pub file : new.db ≡ old.db
  pub front : IsSectorSize old.sector → (w : List ℕ) → IsLogDurable old w → (IsHot w → ⊥) → FrontAnswer w result old new
  pub refused : IfErr result (λ e. (e ≡ Device) × HadRefusal old new)

-- recovery from a log that is durable
pub record RecoversSynced (size : ℕ) (result : Result ℕ RollError) (old new : DiskState) : Type 0 where
  pub asks : Asks (MayRecover size) result old new
  pub recovered : (w : List ℕ) (d : Database) → Suits size old → IsHeld size d → IsLogDurable old w → ShowsOne size d old → RecoverAnswer size d result old new
  pub agrees : (size : ℕ) → Agrees journal_log size old new
  pub files : (db w : List ℕ) → ArePresent old.db db → IsLogDurable old w → FilesAnswer size db w result old new

-- What the recovery of an opening does: a history that fits is recovered. From its sync of the log on the database that all
-- which may be left shows stays shown.
pub record Recovers (size : ℕ) (result : Result ℕ RollError) (old new : DiskState) : Type 0 where
  pub recovered : (past : State) (found : Files) → AreFiles old found → past.page_size ≡ size → FitsDisk past old → RecoveredAt past found result old new
  pub agrees : (size : ℕ) → Agrees journal_log size old new
  pub synced : MatchResult result (λ _. AgreesSynced old new) (λ e. RefusedSynced e old new)
  pub files : (db w : List ℕ) → ArePresent old.db db → ArePresent old.log w → FilesAnswer size db w result old new
