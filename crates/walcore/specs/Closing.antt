-- How the calls of an engine stand to its being open, whatever disk it has (own).
use Rattle.std.specs.Prelude.{◌≡◌, false, Result, Err}
use Rattle.walcore.specs.declared.state.Core.{Core}
use Rattle.walcore.specs.declared.error.WalError.{WalError}
use Rattle.walcore.specs.declared.error.WalError.TheVariants.{Closed, Device}

-- A closed engine answers Closed, and nothing changes; and a refusal by Device closes it.
pub record ClosesOnDevice {D T : Type 0} (result : Result T WalError) (disk disk_new : D) (core core_new : Core) : Type 0 where
  pub closed : core.is_open ≡ false → (result ≡ Err Closed) × (disk_new ≡ disk) × (core_new ≡ core)
  pub device : result ≡ Err Device → core_new.is_open ≡ false

-- the core is as it was, but for room that was taken for a reader
pub record IsAsBefore (old new : Core) : Type 0 where
  pub page_size : new.page_size ≡ old.page_size
  pub is_open : new.is_open ≡ old.is_open
  pub drained : new.drained ≡ old.drained
  pub header : new.header ≡ old.header
  pub sum : new.sum ≡ old.sum
  pub frames : new.frames ≡ old.frames
  pub mark : new.mark ≡ old.mark
  pub last_page : new.last_page ≡ old.last_page
  pub size : new.size ≡ old.size
  pub used : new.used ≡ old.used
  pub unsynced : new.unsynced ≡ old.unsynced
  pub index : new.index ≡ old.index
  pub marks : new.marks.items ≡ old.marks.items
