-- What an engine keeps on its disk, whatever a crash leaves of it (fileformat2, 4.3 and 4.5; that a crash leaves no less is own).
use Rattle.std.specs.Prelude.{◌≡◌, ◌≢◌, ℕ, ◌*◌, ◌<◌, ◌≤◌, length, get_or, None, []}
use Rattle.sqval.specs.Database.{Database, Pages, supplied}
use Rattle.sqval.specs.CommitFaults.{most_bytes}

-- Pages that make a commit to this many pages: none stands there twice, and none above the old size is missing.
pub record AreCommitted (size : ℕ) (old : Database) (pages : Pages) (count : ℕ) : Type 0 where
  pub some : 1 ≤ length pages
  pub once : (i j : ℕ) → i < length pages → j < length pages → (get_or pages i (0, [])).0 ≡ (get_or pages j (0, [])).0 → i ≡ j
  pub filled : (p : ℕ) → length old < p → p ≤ count → supplied pages p ≢ None
  pub above_zero : 1 ≤ count
  pub few : count * size ≤ most_bytes
