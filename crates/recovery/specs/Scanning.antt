-- What a scan of a log is, and what it answers, piece by piece (own).
use Rattle.std.specs.Prelude.{◌≡◌, ℕ, ◌+◌, ◌≤◌, Bool, true, false, List, ◌++◌, length, take, Result, Ok, Err, Option, Some, None}
use Rattle.sqval.specs.Bytes.{AreBytes}
use Rattle.crashdisk.specs.Call.{DiskState}
use Rattle.crashdisk.specs.Keeps.{HadRefusal}

-- An engine's kind of scan: it is one of the first bytes of a log, or of a log as a whole; a log may count; and an
-- error refuses a log.
pub record ScanKind (S E : Type 0) : Type 1 where
  pub Took : List ℕ → S → Type 0
  pub Read : List ℕ → S → Type 0
  pub Counts : List ℕ → Type 0
  pub Refused : List ℕ → E → (old new : DiskState) → Type 0

-- the scan has taken the log up to this place, or the log doesn't count
unfoldable pub PieceAnswer : {S E : Type 0} → ScanKind S E → List ℕ → (end : ℕ) → Result Bool E → S → (old new : DiskState) → Type 0
PieceAnswer kind w end (Ok true) s old new = kind.Took (take end w) s
PieceAnswer kind w end (Ok false) s old new = kind.Counts w → ⊥
PieceAnswer kind w end (Err e) s old new = kind.Refused w e old new

-- what the scan of the whole log answers: none where it doesn't count
unfoldable pub ScanAnswer : {S E : Type 0} → ScanKind S E → List ℕ → Result (Option S) E → (old new : DiskState) → Type 0
ScanAnswer kind w (Ok (Some s)) old new = kind.Read w s
ScanAnswer kind w (Ok None) old new = kind.Counts w → ⊥
ScanAnswer kind w (Err e) old new = kind.Refused w e old new

-- the scan takes the piece of a log that follows what it took
abbrev pub FeedsPiece : {S E : Type 0} → ScanKind S E → (piece : List ℕ) (before after : S) → Result Bool E → Type 0
FeedsPiece kind piece before after result = (w : List ℕ) (at : ℕ) (old new : DiskState) → at + length piece ≤ length w → take at w ++ piece ≡ take (at + length piece) w → kind.Took (take at w) before → PieceAnswer kind w (at + length piece) result after old new

-- where the answer is true, the scan has read each log that begins with what it took
abbrev pub EndsScan : {S E : Type 0} → ScanKind S E → S → Bool → Type 0
EndsScan kind s over = (w : List ℕ) (at : ℕ) → over ≡ true → AreBytes w → kind.Took (take at w) s → kind.Read w s

-- a scan that took a whole log has read it, what refuses a log after other calls refuses it with them, and a refused call refuses it
pub record IsSoundKind {S E : Type 0} (kind : ScanKind S E) (device : E) : Type 0 where
  pub whole : (w : List ℕ) (s : S) → kind.Took w s → kind.Read w s
  pub later : (w : List ℕ) (e : E) (a b c : DiskState) → a.refused ≤ b.refused → kind.Refused w e b c → kind.Refused w e a c
  pub refused : (w : List ℕ) (a b : DiskState) → HadRefusal a b → kind.Refused w device a b
