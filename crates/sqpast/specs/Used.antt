-- The pages of a database that SQLite uses (fileformat2, 1.3.7; the limit own).
use Rattle.std.specs.Prelude.{◌≡◌, ℕ, ◌≤◌, ◌==◌, cond, min, List, length, take}
use Rattle.sqval.specs.Database.{Database, page}
use Rattle.history.specs.Past.{used, valid_count}
use Rattle.sqview.specs.LogView.{pages_of}
use Rattle.sqview.specs.declared.view.View.{View}
use Rattle.sqpast.specs.declared.used.Counts.{Counts}

-- As many as its header says, if that count is valid and not above them; otherwise all.
abbrev pub used_part : Database → Database
used_part whole = take (used (length whole) (page whole 1)) whole

-- how many pages a database has, and how many its header says; 0 if that isn't valid
pub record AreCounts (whole : Database) (counts : Counts) : Type 0 where
  pub all : counts.all ≡ length whole
  pub named : counts.named ≡ valid_count (page whole 1)

-- how many of them SQLite uses
abbrev pub used_by : Counts → ℕ
used_by counts = cond (counts.named == 0) counts.all (min counts.named counts.all)

-- of a view the pages that SQLite uses, at the same frame
pub record IsUsedPart {F : Type 0} (bytes : F → List ℕ) (whole v : View F) : Type 0 where
  pub pages : pages_of bytes v ≡ used_part (pages_of bytes whole)
  pub within : v.count ≤ whole.count
  pub places : v.places.items ≡ take v.count whole.places.items
  pub sizes : (v.page_size ≡ whole.page_size) × (v.front ≡ whole.front)
  pub files : (bytes v.db ≡ bytes whole.db) × (bytes v.log ≡ bytes whole.log)
