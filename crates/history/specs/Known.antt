-- Which databases are known, by the file and the log as they are (own).
use Rattle.std.specs.Prelude.{◌≡◌, ◌⊎◌, ℕ, ◌<◌, ◌≤◌, List, length}
use Rattle.sqval.specs.Bytes.{AreBytes}
use Rattle.sqval.specs.Database.{Database, file_page, file_pages}
use Rattle.sqval.specs.PageSize.{IsPageSize}
use Rattle.sqwal.specs.Frames.{page_of, size_of, IsCommit}
use Rattle.sqwal.specs.View.{Unnamed}
use Rattle.history.specs.Checkpoints.{zero_page, IsCopied, HasSmallCommit}
use Rattle.history.specs.Past.{valid_count, IsDatabaseAt, IsOverFile, IsPast, IsUnknown}

-- Page p may have been cut away: it is zeros, each page of the file from it on is zeros or copied, and a commit has fewer
-- than p pages, and no more than the file.
pub record IsCutAway (size : ℕ) (w : List ℕ) (front : ℕ) (file : List ℕ) (p : ℕ) : Type 0 where
  pub zeros : file_page size file p ≡ zero_page size
  pub tail : (q : ℕ) → p ≤ q → q ≤ file_pages size file → IsCopied size w front file q ⊎ (file_page size file q ≡ zero_page size)
  pub commit : (j : ℕ) × (1 ≤ j) × (j ≤ front) × IsCommit size w j × (size_of size w j < p) × (size_of size w j ≤ file_pages size file)

-- no frame up to m names page p, and a later one was copied over it, or it may have been cut away
abbrev pub IsGone : (size : ℕ) → List ℕ → (front : ℕ) (file : List ℕ) (m p : ℕ) → Type 0
IsGone size w front file m p =
    Unnamed size w m p × (((p ≤ file_pages size file) × IsCopied size w front file p) ⊎ IsCutAway size w front file p)

-- the file may have been shorter, or longer
abbrev pub IsLengthGone : (size : ℕ) → List ℕ → (front : ℕ) (file : List ℕ) → Type 0
IsLengthGone size w front file =
    ((1 ≤ file_pages size file) × (file_page size file (file_pages size file) ≡ zero_page size)) ⊎ HasSmallCommit size w front (file_pages size file)

-- the length of the database is the file's own
abbrev pub IsByLength : (size : ℕ) (file : List ℕ) (m : ℕ) → Type 0
IsByLength size file m = (m ≡ 0) × (valid_count (file_page size file 1) ≡ 0)

-- the n pages at m are known
pub record IsKnown (size : ℕ) (w : List ℕ) (front : ℕ) (file : List ℕ) (m n : ℕ) : Type 0 where
  pub pages : (p : ℕ) → 1 ≤ p → p ≤ n → ¬ IsGone size w front file m p
  pub length_kept : IsByLength size file m → ¬ IsLengthGone size w front file

-- one of them isn't, or how many there are
abbrev pub IsLost : (size : ℕ) → List ℕ → (front : ℕ) (file : List ℕ) (m n : ℕ) → Type 0
IsLost size w front file m n =
    ((p : ℕ) × (1 ≤ p) × (p ≤ n) × IsGone size w front file m p) ⊎ (IsByLength size file m × IsLengthGone size w front file)

-- frame m ends a commit, or is 0
abbrev pub IsPoint : (size : ℕ) → List ℕ → (m : ℕ) → Type 0
IsPoint size w m = (m ≡ 0) ⊎ IsCommit size w m

-- What is known is the database at m, whatever the file was before.
abbrev pub KnownIsPast : Type 0
KnownIsPast = (size : ℕ) (w : List ℕ) (front : ℕ) (file : List ℕ) (m : ℕ) (d : Database) → IsPageSize size → IsOverFile size w m file d
    → IsKnown size w front file m (length d) → IsPast size w front file m d

-- What is lost isn't determined: two files have different databases at m.
abbrev pub LostIsUnknown : Type 0
LostIsUnknown = (size : ℕ) (w : List ℕ) (front : ℕ) (file : List ℕ) (m : ℕ) (d : Database) → IsPageSize size → AreBytes file
    → IsPoint size w m → IsOverFile size w m file d → IsLost size w front file m (length d) → IsUnknown size w front file m

-- A file that had these pages before has one database at m.
abbrev pub DatabaseIsOne : Type 0
DatabaseIsOne = (size : ℕ) (w : List ℕ) (m : ℕ) (before d e : Database) → IsPoint size w m → IsDatabaseAt size w m before d
    → IsDatabaseAt size w m before e → d ≡ e

-- So none is both known and not determined.
abbrev pub PastIsNotUnknown : Type 0
PastIsNotUnknown = (size : ℕ) (w : List ℕ) (front : ℕ) (file : List ℕ) (m : ℕ) (d : Database) → IsPoint size w m
    → IsPast size w front file m d → ¬ IsUnknown size w front file m

-- frames up to the later commit name each page by which it exceeds so many
abbrev pub NamesGrowth : (size : ℕ) → List ℕ → (n later more : ℕ) → Type 0
NamesGrowth size w n later more = (p : ℕ) → n < p → p ≤ more → (i : ℕ) × (1 ≤ i) × (i ≤ later) × (page_of size w i ≡ p)

-- In a log that names its growth what follows a known commit is known.
abbrev pub LaterIsKnown : Type 0
LaterIsKnown = (size : ℕ) (w : List ℕ) (front : ℕ) (file : List ℕ) (m n later more : ℕ) → m ≤ later → 1 ≤ later → NamesGrowth size w n later more
    → IsKnown size w front file m n → IsKnown size w front file later more
