-- What calls answer that only read the disk (own).
use Rattle.std.specs.Prelude.{◌≡◌, ℕ, ◌+◌, ◌≤◌, List, Result}
use Rattle.crashdisk.specs.Call.{DiskState, ArePresent}
use Rattle.crashdisk.specs.Keeps.{TearsPages}
use Rattle.walcore.specs.internal.Opening.{CountAnswer, FileJudged, FrontJudged}
use Rattle.walcore.specs.declared.error.WalError.{WalError}

-- the pages of the database file are counted
abbrev pub CountsPages : (size : ℕ) → Result ℕ WalError → (old new : DiskState) → Type 0
CountsPages size result old new = CountAnswer size old.db.len result old new

-- whether the log has frames in place of a file with this fault
abbrev pub JudgesFront : {T : Type 0} → (size : ℕ) → (fault : WalError) → Result T WalError → (old new : DiskState) → Type 0
JudgesFront size fault result old new = (TearsPages size old → ⊥) → (w : List ℕ) → ArePresent old.log w → FrontJudged size w fault result old new

-- whether both files may be opened, as far as their lengths and the log's front tell
abbrev pub JudgesFile : {T : Type 0} → (size : ℕ) → Result T WalError → (old new : DiskState) → Type 0
JudgesFile size result old new = (TearsPages size old → ⊥) → (db w : List ℕ) → ArePresent old.db db → ArePresent old.log w → FileJudged size db w result old new
