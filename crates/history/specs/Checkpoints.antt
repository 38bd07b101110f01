-- The files that a file may have been before frames of a log were copied into it (fileformat2, 4.3; in any order, and the
-- cut, own).
use Rattle.std.specs.Prelude.{◌≡◌, ◌⊎◌, ℕ, ◌-◌, ◌<◌, ◌≤◌, List, length, get_or, replicate}
use Rattle.sqval.specs.Bytes.{AreBytes}
use Rattle.sqval.specs.Database.{Database, page, file_page, file_pages}
use Rattle.sqwal.specs.Frames.{page_of, size_of, content_of, IsCommit}

-- a page of zeros
abbrev pub zero_page : (size : ℕ) → List ℕ
zero_page size = replicate size 0

-- each page has this many bytes
pub record ArePages (size : ℕ) (d : Database) : Type 0 where
  pub long : (p : ℕ) → 1 ≤ p → p ≤ length d → length (page d p) ≡ size
  pub bytes : (p : ℕ) → 1 ≤ p → p ≤ length d → AreBytes (page d p)

-- page p, zeros past the last one
unfoldable pub padded : (size : ℕ) → Database → (p : ℕ) → List ℕ
padded size before p = get_or before (p - 1) (zero_page size)

-- page p of the file has the bytes of a frame, up to this one, that names it
abbrev pub IsCopied : (size : ℕ) → List ℕ → (front : ℕ) (file : List ℕ) (p : ℕ) → Type 0
IsCopied size w front file p = (i : ℕ) × (1 ≤ i) × (i ≤ front) × (page_of size w i ≡ p) × (file_page size file p ≡ content_of size w i)

-- a commit, up to this frame, has at most so many pages
abbrev pub HasSmallCommit : (size : ℕ) → List ℕ → (front most : ℕ) → Type 0
HasSmallCommit size w front most = (j : ℕ) × (1 ≤ j) × (j ≤ front) × IsCommit size w j × (size_of size w j ≤ most)

-- no checkpoint cut the file
pub record IsUncut (size : ℕ) (w : List ℕ) (front : ℕ) (file : List ℕ) (before : Database) : Type 0 where
  pub long : length before ≤ file_pages size file
  pub each : (p : ℕ) → 1 ≤ p → p ≤ file_pages size file → IsCopied size w front file p ⊎ (file_page size file p ≡ padded size before p)

-- a checkpoint cut it to so many pages, no fewer than a commit has; what is above them was zeros after that
pub record IsCutTo (size : ℕ) (w : List ℕ) (front : ℕ) (file : List ℕ) (before : Database) (cut : ℕ) : Type 0 where
  pub within : cut ≤ file_pages size file
  pub commit : HasSmallCommit size w front cut
  pub each : (p : ℕ) → 1 ≤ p → p ≤ file_pages size file → IsCopied size w front file p
      ⊎ ((p ≤ cut) × (file_page size file p ≡ padded size before p)) ⊎ ((cut < p) × (file_page size file p ≡ zero_page size))

-- The file may have had these pages before checkpoints of this log, up to its front, were the only ones to change it.
abbrev pub IsBefore : (size : ℕ) → List ℕ → (front : ℕ) (file : List ℕ) → Database → Type 0
IsBefore size w front file before = ArePages size before × (IsUncut size w front file before ⊎ ((cut : ℕ) × IsCutTo size w front file before cut))
