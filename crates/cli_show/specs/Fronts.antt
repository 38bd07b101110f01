-- The front of the log from which what is shown comes (fileformat2, 4.4).
use Rattle.std.specs.Prelude.{◌≡◌, ℕ, List, Option, None, Some}
use Rattle.sqwal.specs.Header.{named_size}
use Rattle.sqview.specs.At.{IsCommitAt}
use Rattle.sqview.specs.LogView.{IsLogged}
use Rattle.sqview.specs.Logs.{AreTwoLogs}
use Rattle.cli_facts.specs.declared.fronts.Front.{Front as LogFront}
use Rattle.cli_words.specs.declared.requests.Commit.{Commit}
use Rattle.cli_words.specs.declared.requests.Commit.TheVariants.{Last, Front, At}

-- the front of the log, where no hot journal lies beside it; none where no frame counts, and not both logs do
abbrev pub IsShownFront : (wal journal : List ℕ) → Option LogFront → Type 0
IsShownFront wal journal None = ((m : ℕ) → ¬ IsLogged wal journal m) × ¬ AreTwoLogs wal journal
IsShownFront wal journal (Some front) = IsLogged wal journal front.frame × (front.page_size ≡ named_size wal)

-- a commit frame, none for 0
abbrev pub IsFrontAt : (m : ℕ) → (wal journal : List ℕ) → Option LogFront → Type 0
IsFrontAt m wal journal None = m ≡ 0
IsFrontAt m wal journal (Some front) = (front.frame ≡ m) × IsCommitAt wal journal m × (front.page_size ≡ named_size wal)

-- the commit frame that is asked for; at the last commit that front
abbrev pub IsAskedFront : (at : Commit) → (wal journal : List ℕ) → Option LogFront → Type 0
IsAskedFront Last wal journal front = IsShownFront wal journal front
IsAskedFront (Front m) wal journal front = IsFrontAt m wal journal front
IsAskedFront (At m) wal journal front = IsFrontAt m wal journal front
