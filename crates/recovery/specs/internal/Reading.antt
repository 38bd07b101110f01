-- What one call answers that reads a file; `device` is the error by which it tells that it was refused (own).
use Rattle.std.specs.Prelude.{ℕ, List, Result}
use Rattle.crashdisk.specs.Call.{DiskState}
use Rattle.crashdisk.specs.Keeps.{LooksOnce, TellsRefusal}
use Rattle.crashdisk.specs.internal.Keeps.{PlaceAnswer}
use Rattle.crashdisk.specs.declared.file.File.{File}

-- bytes of a file were read, by one call at most
pub record ReadsPlace {T E : Type 0} (device : E) (file : File) (at : ℕ) (out : List ℕ) (result : Result T E) (old new : DiskState) : Type 0 where
  pub place : PlaceAnswer device file at out result old new
  pub looks : LooksOnce old new
  pub told : TellsRefusal device result old new
