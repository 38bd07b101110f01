-- What the parts of the scan of a log on a disk answer (own).
use Rattle.std.specs.Prelude.{◌≡◌, ℕ, ◌+◌, ◌≤◌, Bool, true, false, List, [], length, take, Result, Ok, Err}
use Rattle.crashdisk.specs.Call.{DiskState, ArePresent}
use Rattle.recovery.specs.Scanning.{ScanKind, PieceAnswer}

-- the scan has read the log, or it doesn't count
unfoldable pub PiecesAnswer : {S E : Type 0} → ScanKind S E → List ℕ → Result Bool E → S → (old new : DiskState) → Type 0
PiecesAnswer kind w (Ok true) s old new = kind.Read w s
PiecesAnswer kind w (Ok false) s old new = kind.Counts w → ⊥
PiecesAnswer kind w (Err e) s old new = kind.Refused w e old new

-- the scan goes on by n bytes of the log, from a place on
abbrev pub TakesPiece : {S E : Type 0} → ScanKind S E → (at n : ℕ) (before after : S) → Result Bool E → (old new : DiskState) → Type 0
TakesPiece kind at n before after result old new = (w : List ℕ) → ArePresent old.log w → at + n ≤ length w → kind.Took (take at w) before → PieceAnswer kind w (at + n) result after old new

-- a scan takes the log, which has so many bytes
abbrev pub TakesLog : {S E : Type 0} → ScanKind S E → (long : ℕ) (before after : S) → Result Bool E → (old new : DiskState) → Type 0
TakesLog kind long before after result old new = (w : List ℕ) → ArePresent old.log w → length w ≡ long → kind.Took [] before → PiecesAnswer kind w result after old new
