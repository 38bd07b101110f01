-- What calls answer that only read the disk; `device` is the error by which they tell that a call of it was refused (own).
use Rattle.std.specs.Prelude.{◌≡◌, ℕ, List, length, Result}
use Rattle.crashdisk.specs.Call.{DiskState, ArePresent}
use Rattle.crashdisk.specs.Keeps.{Still, TellsRefusal}

-- No byte has changed, a call that was refused is told, and this is what was found.
pub record OnlyReads {T E : Type 0} (device : E) (result : Result T E) (Found : (old new : DiskState) → Type 0) (old new : DiskState) : Type 0 where
  pub still : Still old new
  pub told : TellsRefusal device result old new
  pub found : Found old new

-- this was found of the log, which has so many bytes
abbrev pub OfLog : (long : ℕ) → (Found : List ℕ → (old new : DiskState) → Type 0) → (old new : DiskState) → Type 0
OfLog long Found old new = (w : List ℕ) → ArePresent old.log w → length w ≡ long → Found w old new
