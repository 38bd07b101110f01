-- An engine before its first commit: what its opening left to be shown stays shown (own).
use Rattle.std.specs.Prelude.{◌≡◌}
use Rattle.walcore.specs.declared.wal.Wal.{Wal}

-- the last step of a checkpoint before the first commit
pub record BringsNothing {D : Type 0} (old new : Wal D) : Type 0 where
  pub disk : new.disk ≡ old.disk
  pub frames : new.core.frames ≡ old.core.frames
  pub mark : new.core.mark ≡ old.core.mark
  pub unsynced : new.core.unsynced ≡ old.core.unsynced
