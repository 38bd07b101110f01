-- What the parts of an opening promise one another (own).
use Rattle.std.specs.Prelude.{ℕ, suc, ◌≤◌, List, Option, Some, None, Result, Ok, Err}
use Rattle.sqwal.specs.Header.{named_size, IsHeader}
use Rattle.sqwal.specs.Frames.{IsValidFrame}
use Rattle.sqwal.specs.Took.{TookWithin}
use Rattle.sqwal.specs.declared.scan.Scan.{Scan}
use Rattle.sqval.specs.Limits.{Bounds}
use Rattle.sqview.specs.At.{IsCommitAt}
use Rattle.sqview.specs.declared.view_error.ViewError.{ViewError}
use Rattle.sqview.specs.declared.view_error.ViewError.TheVariants.{TooLarge, NoMemory}
use Rattle.sqpast.specs.Files.{IsWithoutLog, IsLogTooLongWithin}

-- the scan of a log, if it has a valid header
abbrev pub PastScanned : (most : ℕ) → List ℕ → Result (Option Scan) ViewError → Type 0
PastScanned most w (Ok (Some s)) = TookWithin most w s
PastScanned most w (Ok None) = ¬ IsHeader (named_size w) w
PastScanned most w (Err TooLarge) = IsValidFrame (named_size w) w (suc most)
PastScanned most w (Err NoMemory) = Unit {0}
PastScanned most w (Err _) = ⊥

-- no log has a commit, nor is one too long to be read
pub record HasNoLog (limits : Bounds) (m : ℕ) (wal journal : List ℕ) : Type 0 where
  pub without : IsWithoutLog wal journal
  pub short : ¬ IsLogTooLongWithin limits wal journal
  pub none : 1 ≤ m → ¬ IsCommitAt wal journal m
