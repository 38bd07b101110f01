-- What is read of the logs beside a database file.
use Rattle.std.specs.Prelude.{ℕ, suc, ◌^◌, ◌<◌, ◌≤◌, List, length, Result, Ok, Err}
use Rattle.sqval.specs.Limits.{Bounds}
use Rattle.sqwal.specs.Header.{named_size, HeaderRefused}
use Rattle.sqwal.specs.Frames.{IsValidFrame}
use Rattle.sqwal.specs.Took.{TookWithin}
use Rattle.sqwal.specs.declared.error.WalFormatError.{WalFormatError}
use Rattle.sqwal.specs.declared.scan.Scan.{Scan}
use Rattle.sqjournal.specs.Header.{IsFirstHeader}
use Rattle.sqjournal.specs.declared.replay.Replay.{Replay}
use Rattle.sqview.specs.Logs.{HasRead, AreTwoLogs}
use Rattle.sqview.specs.LogView.{IsTooLongWithin}
use Rattle.cli_facts.specs.declared.outcome.Refusal.{Refusal}
use Rattle.cli_facts.specs.declared.outcome.Refusal.TheVariants.{TwoLogs, TooLarge, NoMemory, FileFailed}

-- The replay of a journal, or why there is none: it is above the limit, or no header begins it.
abbrev pub ReplayFound : (journal : List ℕ) → Result Replay Refusal → Type 0
ReplayFound b (Ok replay) = (length b ≤ 2 ^ 40) × HasRead b replay
ReplayFound b (Err TooLarge) = 2 ^ 40 < length b
ReplayFound b (Err FileFailed) = (28 ≤ length b) × ¬ IsFirstHeader b
ReplayFound b (Err NoMemory) = Unit {0}
ReplayFound b (Err _) = ⊥

-- The scan of a log within limits, or what refuses its header; or there is one valid frame too many.
abbrev pub ScanFound : (limits : Bounds) → (wal : List ℕ) → Result (Result Scan WalFormatError) Refusal → Type 0
ScanFound limits w (Ok (Ok scan)) = TookWithin limits.frames w scan
ScanFound limits w (Ok (Err error)) = (32 ≤ length w) × HeaderRefused w error
ScanFound limits w (Err TooLarge) = IsValidFrame (named_size w) w (suc limits.frames)
ScanFound limits w (Err NoMemory) = Unit {0}
ScanFound limits w (Err _) = ⊥

-- Why a log isn't read: two of them count, or the one that counts is too long.
abbrev pub IsUnreadLog : (limits : Bounds) → (wal journal : List ℕ) → Refusal → Type 0
IsUnreadLog limits wal journal TwoLogs = AreTwoLogs wal journal
IsUnreadLog limits wal journal TooLarge = IsTooLongWithin limits wal journal
IsUnreadLog limits wal journal NoMemory = Unit {0}
IsUnreadLog limits wal journal _ = ⊥
