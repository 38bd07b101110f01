-- The database that a journal restores (fileformat2, 3).
use Rattle.std.specs.Prelude.{◌≡◌, ℕ, ◌≤◌, List, length, reverse, Option, unwrap_or}
use Rattle.std.specs.List.{flat_map}
use Rattle.sqval.specs.Bytes.{word}
use Rattle.sqval.specs.Database.{Database, Pages, page, file_page, IsFile, supplied}
use Rattle.sqjournal.specs.Journal.{Segment, IsHot, IsJournal}
use Rattle.sqjournal.specs.declared.reading.Why.{Why}

-- the records of all segments, in order
abbrev pub all_records : List Segment → Pages
all_records segments = flat_map (λ s. s.records) segments

-- the content of the last record that names page p, where there is one
abbrev pub last_content : Pages → (p : ℕ) → Option (List ℕ)
last_content records p = supplied (reverse records) p

-- the database before the transaction: page p is the content of the last record that names p, otherwise the file's, with
-- zeros past the file's end. There are as many pages as the first header says, of the size that it says.
pub record IsRolledBack (file journal : List ℕ) (d : Database) : Type 0 where
  pub segments : List Segment
  pub at : ℕ
  pub why : Why
  pub is : IsJournal journal segments at why
  pub count : length d ≡ word journal 16
  pub each : (p : ℕ) → 1 ≤ p → p ≤ length d → page d p ≡ unwrap_or (last_content (all_records segments) p) (file_page (word journal 24) file p)

-- the database of a file of pages of this size with its journal: rolled back where the journal is hot, otherwise the file itself
pub record IsRestored (size : ℕ) (file journal : List ℕ) (d : Database) : Type 0 where
  pub hot : IsHot journal → (size ≡ word journal 24) × IsRolledBack file journal d
  pub cold : (¬ IsHot journal) → IsFile size file d

-- the same as bytes: what the file holds once the journal is replayed
pub record Restores (file journal after : List ℕ) : Type 0 where
  pub hot : IsHot journal → (d : Database) × IsRolledBack file journal d × (after ≡ flat_map (λ content. content) d)
  pub cold : (¬ IsHot journal) → after ≡ file
