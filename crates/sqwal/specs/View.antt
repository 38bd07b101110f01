-- What a file and its log show (fileformat2, 4.5).
use Rattle.std.specs.Prelude.{◌≡◌, ◌≢◌, ℕ, ◌<◌, ◌≤◌, List, length}
use Rattle.sqval.specs.Database.{Database, page, file_page, file_pages}
use Rattle.sqwal.specs.Frames.{page_of, size_of, content_of}

-- none of the frames 1 to m names page p
abbrev pub Unnamed : (size : ℕ) → List ℕ → (m p : ℕ) → Type 0
Unnamed size w m p = (i : ℕ) → 1 ≤ i → i ≤ m → page_of size w i ≢ p

-- frame i is the last one up to m that names page p
pub record IsLast (size : ℕ) (w : List ℕ) (m p i : ℕ) : Type 0 where
  pub first : 1 ≤ i
  pub within : i ≤ m
  pub names : page_of size w i ≡ p
  pub last : (j : ℕ) → i < j → j ≤ m → page_of size w j ≢ p

-- the frames 1 to m over pages
pub record IsOver (size : ℕ) (below : ℕ → List ℕ) (w : List ℕ) (m : ℕ) (d : Database) : Type 0 where
  pub logged : (p i : ℕ) → 1 ≤ p → p ≤ length d → IsLast size w m p i → page d p ≡ content_of size w i
  pub other : (p : ℕ) → 1 ≤ p → p ≤ length d → Unnamed size w m p → page d p ≡ below p

-- the view of a file with its log at frame m
pub record IsView (size : ℕ) (db w : List ℕ) (m : ℕ) (d : Database) : Type 0 where
  pub none : m ≡ 0 → length d ≡ file_pages size db
  pub some : 1 ≤ m → length d ≡ size_of size w m
  pub over : IsOver size (file_page size db) w m d
