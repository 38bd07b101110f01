-- Databases that an engine holds, and files that are just these (own).
use Rattle.std.specs.Prelude.{◌≡◌, ℕ, ◌*◌, ◌≤◌, List, length}
use Rattle.sqval.specs.Database.{Database, page, file_page}
use Rattle.sqval.specs.CommitFaults.{most_bytes}

-- the bytes of a file that is just these pages
pub record IsJust (size : ℕ) (d : Database) (bytes : List ℕ) : Type 0 where
  pub long : length bytes ≡ length d * size
  pub each : (p : ℕ) → 1 ≤ p → p ≤ length d → page d p ≡ file_page size bytes p

-- a database that an engine holds
pub record IsHeld (size : ℕ) (d : Database) : Type 0 where
  pub some : 1 ≤ length d
  pub full : (p : ℕ) → 1 ≤ p → p ≤ length d → length (page d p) ≡ size
  pub few : length d * size ≤ most_bytes
