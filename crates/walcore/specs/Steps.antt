-- What the parts of a fold do to a disk (fileformat2, 4.3).
use Rattle.std.specs.Prelude.{ℕ, Result}
use Rattle.crashdisk.specs.Call.{DiskState}
use Rattle.crashdisk.specs.Keeps.{Later, TellsRefusal}
use Rattle.walcore.specs.Changes.{MayFoldWithin}
use Rattle.walcore.specs.declared.error.WalError.{WalError}
use Rattle.walcore.specs.declared.error.WalError.TheVariants.{Device}

-- ---- The end.

-- which calls a fold of at most so many bytes made of the disk, and that one which was refused is told
pub record FoldCallsWithin {T : Type 0} (most size : ℕ) (result : Result T WalError) (old new : DiskState) : Type 0 where
  pub later : Later (MayFoldWithin most size) old new
  pub told : TellsRefusal Device result old new
