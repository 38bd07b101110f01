-- What the parts of a commit promise one another (own).
use Rattle.std.specs.Prelude.{◌≡◌, ◌≤◌}
use Rattle.walcore.specs.declared.state.Core.{Core}

-- two cores that know the same log, the second one with as much room or more
pub record SameLog (old new : Core) : Type 0 where
  pub page_size : new.page_size ≡ old.page_size
  pub header : new.header ≡ old.header
  pub sum : new.sum ≡ old.sum
  pub frames : new.frames ≡ old.frames
  pub last_page : new.last_page ≡ old.last_page
  pub pages : new.index.pages ≡ old.index.pages
  pub bound : old.index.bound ≤ new.index.bound
  pub room : old.index.room ≤ new.index.room

-- and have the same readers and newest database
pub record SameMarks (old new : Core) : Type 0 where
  pub is_open : new.is_open ≡ old.is_open
  pub drained : new.drained ≡ old.drained
  pub mark : new.mark ≡ old.mark
  pub size : new.size ≡ old.size
  pub marks : new.marks ≡ old.marks

-- memory was taken
pub record Prepares (old new : Core) : Type 0 where
  pub log : SameLog old new
  pub marks : SameMarks old new
  pub used : new.used ≡ old.used
  pub unsynced : new.unsynced ≡ old.unsynced
