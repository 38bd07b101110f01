-- What is read of logs, and which of them counts (own).
use Rattle.std.specs.Prelude.{◌≡◌, ◌≢◌, ◌⊎◌, ℕ, ◌^◌, ◌≤◌, List, [], ◌++◌, length, Option, Result, Ok, Err, MatchResult}
use Rattle.sqwal.specs.Refusal.{most_frames}
use Rattle.sqwal.specs.Took.{TookWithin}
use Rattle.sqwal.specs.Answers.{LogRefusedWithin}
use Rattle.sqwal.specs.declared.scan.Scan.{Scan}
use Rattle.sqwal.specs.declared.error.WalFormatError.{WalFormatError}
use Rattle.sqjournal.specs.Header.{Names}
use Rattle.sqjournal.specs.Journal.{IsHot, IsFirst}
use Rattle.sqjournal.specs.Took.{Took as ReplayTook, IsSettled, Refuses}
use Rattle.sqjournal.specs.declared.header.JournalHeader.{JournalHeader}
use Rattle.sqjournal.specs.declared.replay.Replay.{Replay}
use Rattle.sqjournal.specs.declared.error.JournalError.{JournalError}
use Rattle.sqjournal.specs.declared.error.JournalError.TheVariants.{NoMemory}
use Rattle.sqpage.specs.declared.source.SourceError.{SourceError}
use Rattle.sqview.specs.declared.logs.LogInUse.{LogInUse}
use Rattle.sqview.specs.declared.logs.LogInUse.TheVariants.{Neither, Wal, Journal}
use Rattle.sqview.specs.declared.view_error.ViewError.{ViewError}
use Rattle.sqview.specs.declared.view_error.ViewError.TheVariants.{TwoLogs, Unread}

-- the answer isn't that a file could not be read
abbrev pub IsRead : {A : Type 0} → Result A ViewError → Type 0
IsRead (Ok x) = Unit {0}
IsRead (Err Unread) = ⊥
IsRead (Err e) = Unit {0}

-- a hot journal and a log that isn't empty
abbrev pub AreTwoLogs : (wal journal : List ℕ) → Type 0
AreTwoLogs wal journal = IsHot journal × (wal ≢ [])

-- the log that counts: a hot journal, otherwise a log that isn't empty
abbrev pub CountsAnswer : (wal journal : List ℕ) → Result LogInUse ViewError → Type 0
CountsAnswer wal journal (Ok Neither) = (¬ IsHot journal) × (wal ≡ [])
CountsAnswer wal journal (Ok Wal) = (¬ IsHot journal) × (wal ≢ [])
CountsAnswer wal journal (Ok (Journal header)) = IsHot journal × Names journal header × (wal ≡ [])
CountsAnswer wal journal (Err TwoLogs) = AreTwoLogs wal journal
CountsAnswer wal journal (Err e) = ⊥

-- the first header of a hot journal
abbrev pub HotAnswer : (journal : List ℕ) → Result (Option JournalHeader) SourceError → Type 0
HotAnswer journal answer = MatchResult answer (IsFirst journal) (λ e. ⊥)

-- the scan of a log of at most so many frames, or what refuses it
abbrev pub ScanAnswerWithin : (most : ℕ) → List ℕ → Result (Result Scan WalFormatError) SourceError → Type 0
ScanAnswerWithin most w (Ok (Ok s)) = TookWithin most w s
ScanAnswerWithin most w (Ok (Err e)) = LogRefusedWithin most w e
ScanAnswerWithin most w (Err e) = ⊥

-- the same at the usual limit
abbrev pub ScanAnswer : List ℕ → Result (Result Scan WalFormatError) SourceError → Type 0
ScanAnswer w r = ScanAnswerWithin most_frames w r

-- the replay took these bytes, or a front of them behind which none change what the journal says
pub record HasRead (b : List ℕ) (r : Replay) : Type 0 where
  pub front : List ℕ
  pub more : List ℕ
  pub split : b ≡ front ++ more
  pub took : ReplayTook front r
  pub rest : (more ≡ []) ⊎ IsSettled front

-- the replay of a journal, or what refuses it
abbrev pub ReplayAnswer : List ℕ → Result (Result Replay JournalError) SourceError → Type 0
ReplayAnswer b (Ok (Ok r)) = (length b ≤ 2 ^ 40) × HasRead b r
ReplayAnswer b (Ok (Err NoMemory)) = Unit {0}
ReplayAnswer b (Ok (Err e)) = Refuses b e
ReplayAnswer b (Err e) = ⊥
