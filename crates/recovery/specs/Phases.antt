-- What stands in the database file while pages are written into it (own).
use Rattle.std.specs.Prelude.{◌≡◌, ℕ, ◌+◌, ◌-◌, ◌*◌, ◌<◌, ◌≤◌, List, length, get_or}
use Rattle.sqval.specs.Database.{Database, page}
use Rattle.crashdisk.specs.State.{IsImage}
use Rattle.crashdisk.specs.Call.{DiskState}
use Rattle.crashdisk.specs.Keeps.{Suits}

-- Pages are written into the file, or its length is set. The pages of d that the log doesn't have stand in each file
-- that a crash may leave, with zeros past its end.
pub record Filling (size : ℕ) (d : Database) (Unnamed : ℕ → Type 0) (s : DiskState) : Type 0 where
  pub suits : Suits size s
  pub full : (p : ℕ) → 1 ≤ p → p ≤ length d → length (page d p) ≡ size
  pub steady : (p i : ℕ) → 1 ≤ p → p ≤ length d → Unnamed p → i < size → (db : List ℕ) → IsImage s.sector s.tears s.db db → get_or db ((p - 1) * size + i) 0 ≡ get_or (page d p) i 0
