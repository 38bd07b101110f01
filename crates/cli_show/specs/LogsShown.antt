-- What was shown, or found, of the log that counts.
use Rattle.std.specs.Prelude.{◌≡◌, ◌≢◌, ◌⊎◌, ℕ, ◌≤◌, Bool, List, [], ◌∷◌, length as list_length, codes}
use Rattle.sqval.specs.Limits.{Bounds}
use Rattle.sqwal.specs.Commits.{AreCommits}
use Rattle.sqwal.specs.Header.{named_size, IsHeader, HeaderRefused}
use Rattle.sqwal.specs.Refusal.{number_of}
use Rattle.sqwal.specs.Took.{TookWithin}
use Rattle.sqwal.specs.declared.error.WalFormatError.{WalFormatError}
use Rattle.sqjournal.specs.Journal.{IsHot}
use Rattle.sqjournal.specs.declared.replay.Replay.{Replay}
use Rattle.sqview.specs.Logs.{HasRead, AreTwoLogs}
use Rattle.cli_words.specs.declared.requests.Options.{Options}
use Rattle.cli_words.specs.declared.requests.Style.{Style}
use Rattle.cli_text.specs.Facts.{number_text, object_text}
use Rattle.cli_text.specs.Logs.{Journal, Log, ShowsJournal, ShowsLog, journal_text, log_text}
use Rattle.cli_text.specs.Verdicts.{none_text}
use Rattle.cli_show.specs.Commits.{AreKnownIn, known_commits_text}
use Rattle.cli_show.specs.Limits.{limits_named}
use Rattle.cli_show.specs.declared.contents.Contents.{Contents}
use Rattle.cli_show.specs.declared.logs.LogFound.{LogFound}
use Rattle.cli_show.specs.declared.logs.LogFound.TheVariants as found

-- what a report says of the one log that counts: nothing where none does or its header is refused
abbrev pub IsLogFound : (limits : Bounds) → (wal journal : List ℕ) → LogFound → Type 0
IsLogFound limits wal journal found.None = (¬ IsHot journal) × ¬ IsHeader (named_size wal) wal
IsLogFound limits wal journal (found.Wal scan commits length) = (¬ IsHot journal) × TookWithin limits.frames wal scan
    × AreCommits (named_size wal) wal commits.items × (length ≡ list_length wal)
IsLogFound limits wal journal (found.Journal replay) = IsHot journal × HasRead journal replay × ¬ AreTwoLogs wal journal

-- the number of what refuses a log's header
abbrev pub refused_text : Style → WalFormatError → List ℕ
refused_text style error = object_text style (number_text style (codes "wal refused") (number_of error) ∷ [])

-- what is printed of a write-ahead log: what it shows, or what refuses its header
abbrev pub IsWalText : Options → (wal text : List ℕ) → Type 0
IsWalText options wal text =
    ((log : Log) × ShowsLog (limits_named options.large).frames wal log × (text ≡ log_text options.style log))
    ⊎ ((error : WalFormatError) × (32 ≤ list_length wal) × HeaderRefused wal error × (text ≡ refused_text options.style error))

-- what is printed of the commits of a write-ahead log beside a file: each of them, and whether the database there is
-- known; its front and where it stops
abbrev pub IsTextOfCommits : Style → (most : ℕ) → (wal db text : List ℕ) → Type 0
IsTextOfCommits style most wal db text = (log : Log) × (commits : List ℕ) × (known : List Bool) × ShowsLog most wal log
    × AreCommits (named_size wal) wal commits × AreKnownIn wal db known × (text ≡ known_commits_text style log known commits)

-- that of the log that counts, or what refuses its header; beside no log, that there are none
abbrev pub IsCommitsText : Options → (files : Contents (List ℕ)) → (text : List ℕ) → Type 0
IsCommitsText options files text =
    ((¬ IsHot files.journal) × (files.wal ≢ []) × IsTextOfCommits options.style (limits_named options.large).frames files.wal files.db text)
    ⊎ (((¬ IsHot files.journal)
    × ((error : WalFormatError) × (32 ≤ list_length files.wal) × HeaderRefused files.wal error × (text ≡ refused_text options.style error)))
    ⊎ ((files.wal ≡ []) × (text ≡ none_text options.style (codes "commits"))))

-- of a hot journal: what the front of it shows that was read
abbrev pub IsJournalText : Style → (journal text : List ℕ) → Type 0
IsJournalText style journal text =
    (replay : Replay) × (read : HasRead journal replay) × (shown : Journal) × ShowsJournal read.front shown × (text ≡ journal_text style shown)

-- of the one log that counts, or that none does
abbrev pub IsLogText : Options → (wal journal text : List ℕ) → Type 0
IsLogText options wal journal text = (IsHot journal × IsJournalText options.style journal text × ¬ AreTwoLogs wal journal)
    ⊎ (((¬ IsHot journal) × IsWalText options wal text)
    ⊎ ((¬ IsHot journal) × (wal ≡ []) × (text ≡ none_text options.style (codes "log"))))
