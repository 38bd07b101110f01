-- What was shown, or found, of the log that counts.
use Rattle.std.specs.Prelude.{◌≡◌, ◌≢◌, ℕ, List, [], Ok, Err}
use Rattle.sqval.specs.Limits.{Bounds}
use Rattle.sqwal.specs.declared.error.WalFormatError.{WalFormatError}
use Rattle.sqjournal.specs.Journal.{IsHot}
use Rattle.cli_show.specs.Logs.{ReplayFound, ScanFound}
use Rattle.cli_show.specs.declared.logs.Shown.{Shown}
use Rattle.cli_show.specs.declared.logs.Shown.TheVariants.{Neither, Refused, Wal, Journal}

-- a write-ahead log: its scan, or that its header is refused
abbrev pub IsWalShown : (limits : Bounds) → (wal : List ℕ) → Shown → Type 0
IsWalShown limits w (Wal scan) = ScanFound limits w (Ok (Ok scan))
IsWalShown limits w Refused = (error : WalFormatError) × ScanFound limits w (Ok (Err error))
IsWalShown limits w _ = ⊥

-- a hot journal: its replay
abbrev pub IsJournalShown : (journal : List ℕ) → Shown → Type 0
IsJournalShown b (Journal replay) = ReplayFound b (Ok replay)
IsJournalShown b _ = ⊥

-- the one that counts, if one does
abbrev pub IsShownLog : (limits : Bounds) → (wal journal : List ℕ) → Shown → Type 0
IsShownLog limits wal journal Neither = (¬ IsHot journal) × (wal ≡ [])
IsShownLog limits wal journal (Journal replay) = IsHot journal × IsJournalShown journal (Journal replay) × (wal ≡ [])
IsShownLog limits wal journal shown = (¬ IsHot journal) × IsWalShown limits wal shown × (wal ≢ [])
