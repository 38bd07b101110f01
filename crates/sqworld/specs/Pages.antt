-- The pages of a database where a run begins (own).
use Rattle.std.specs.Prelude.{◌≡◌, ℕ, ◌*◌, ◌<◌, ◌≤◌, Bool, true, IsTrue, List, [], length, get_or, map, Vec}
use Rattle.std.specs.declared.alloc.Global.{Global}
use Rattle.sqval.specs.Database.{Database}
use Rattle.crashdisk.specs.Solid.{is_sector_size}
use Rattle.sqval.specs.CommitFaults.{most_bytes}

-- the contents of pages, page 1 first
abbrev pub pages_of : List (Vec ℕ Global) → Database
pages_of pages = map (λ page. page.items) pages

-- a page at least, each of the page size, within the limit of a database
pub record ArePages (size : ℕ) (pages : Database) : Type 0 where
  pub some : 1 ≤ length pages
  pub each : (i : ℕ) → i < length pages → length (get_or pages i []) ≡ size
  pub few : length pages * size ≤ most_bytes

-- pages on a disk with sectors of a power of two from 512 to 65536 bytes, which are no larger than a page on a disk that tears
pub record IsBase (size sector : ℕ) (tears : Bool) (pages : Database) : Type 0 where
  pub sector_size : IsTrue (is_sector_size sector)
  pub pages_are : ArePages size pages
  pub whole : tears ≡ true → sector ≤ size
