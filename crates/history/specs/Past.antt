-- The database at a commit of a log, over the pages that the file had before (fileformat2, 4.5; the header's count 1.3.7).
use Rattle.std.specs.Prelude.{◌≡◌, ◌≢◌, ℕ, ◌≤◌, ◌==◌, cond, min, List, length}
use Rattle.sqval.specs.Bytes.{word}
use Rattle.sqval.specs.Database.{Database, page, file_page, file_pages}
use Rattle.sqwal.specs.Frames.{size_of}
use Rattle.sqwal.specs.View.{IsOver}
use Rattle.history.specs.Checkpoints.{padded, IsBefore}

-- the count of pages in a database's first page, where it was written with the last change; otherwise 0
unfoldable pub valid_count : (first : List ℕ) → ℕ
valid_count first = cond (word first 24 == word first 92) (word first 28) 0

-- the pages that count at a commit of so many: the header's count where it is valid and not above them
abbrev pub used : (most : ℕ) (first : List ℕ) → ℕ
used most first = cond (valid_count first == 0) most (min (valid_count first) most)

-- those of a file of so many, without a log
abbrev pub first_count : (long : ℕ) (first : List ℕ) → ℕ
first_count long first = cond (valid_count first == 0) long (valid_count first)

-- the frames 1 to m over a file of so many pages: the pages that count
pub record IsAt (size : ℕ) (w : List ℕ) (m long : ℕ) (below : ℕ → List ℕ) (d : Database) : Type 0 where
  pub start : m ≡ 0 → length d ≡ first_count long (below 1)
  pub some : 1 ≤ m → length d ≡ used (size_of size w m) (page d 1)
  pub over : IsOver size below w m d

-- the database at commit m, or at 0, of a file that had these pages before
abbrev pub IsDatabaseAt : (size : ℕ) → List ℕ → (m : ℕ) (before d : Database) → Type 0
IsDatabaseAt size w m before d = IsAt size w m (length before) (padded size before) d

-- the frames up to m over the file as it is
abbrev pub IsOverFile : (size : ℕ) → List ℕ → (m : ℕ) (file : List ℕ) → Database → Type 0
IsOverFile size w m file d = IsAt size w m (file_pages size file) (file_page size file) d

-- whatever the file was before, this is the database at m
abbrev pub IsPast : (size : ℕ) → List ℕ → (front : ℕ) (file : List ℕ) (m : ℕ) → Database → Type 0
IsPast size w front file m d = (before : Database) → IsBefore size w front file before → IsDatabaseAt size w m before d

-- the file may have been two that have different databases at m
pub record IsUnknown (size : ℕ) (w : List ℕ) (front : ℕ) (file : List ℕ) (m : ℕ) : Type 0 where
  pub one : Database
  pub other : Database
  pub shown : Database
  pub differs : Database
  pub one_before : IsBefore size w front file one
  pub other_before : IsBefore size w front file other
  pub one_at : IsDatabaseAt size w m one shown
  pub other_at : IsDatabaseAt size w m other differs
  pub apart : shown ≢ differs
