-- Why it isn't known which database was there at a commit of a log.
use Rattle.std.specs.Prelude.{◌≡◌, ℕ, ◌<◌, ◌≤◌, List, length, Option, None, Some}
use Rattle.sqval.specs.Database.{Database, file_page, file_pages}
use Rattle.sqwal.specs.Frames.{page_of, size_of, content_of, IsCommit}
use Rattle.sqwal.specs.View.{Unnamed}
use Rattle.history.specs.Checkpoints.{zero_page}
use Rattle.history.specs.Past.{IsOverFile}
use Rattle.history.specs.Known.{IsByLength, IsCutAway, IsGone, IsKnown, IsLost}
use Rattle.view_loss.specs.declared.loss.Loss.{Loss}
use Rattle.view_loss.specs.declared.loss.Loss.TheVariants.{Copied, CutAway, CutShort, Lengthened}

-- frame i ends a commit of so many pages or fewer
abbrev pub IsCommitWithin : (size : ℕ) → List ℕ → (front most i : ℕ) → Type 0
IsCommitWithin size w front most i = (1 ≤ i) × (i ≤ front) × IsCommit size w i × (size_of size w i ≤ most)

-- Why the file may be another than it was. Page p has the bytes of frame i, which names it; or it may have been cut away,
-- and the commit that ends with frame i has fewer than p pages; or that commit may have cut the file to its length; or the
-- last page may have been added.
abbrev pub IsReason : (size : ℕ) → List ℕ → (front : ℕ) (file : List ℕ) → Loss → Type 0
IsReason size w front file (Copied p i) =
    (p ≤ file_pages size file) × (1 ≤ i) × (i ≤ front) × (page_of size w i ≡ p) × (file_page size file p ≡ content_of size w i)
IsReason size w front file (CutAway p i) =
    IsCutAway size w front file p × IsCommitWithin size w front (file_pages size file) i × (size_of size w i < p)
IsReason size w front file (CutShort i) = IsCommitWithin size w front (file_pages size file) i
IsReason size w front file Lengthened = (1 ≤ file_pages size file) × (file_page size file (file_pages size file) ≡ zero_page size)

-- none of pages 1 to n is gone at m
abbrev pub AreAllThere : (size : ℕ) → List ℕ → (front : ℕ) (file : List ℕ) (m n : ℕ) → Type 0
AreAllThere size w front file m n = (p : ℕ) → 1 ≤ p → p ≤ n → ¬ IsGone size w front file m p

-- page p is the first of them that is: no frame up to m names it
pub record IsFirstLost (size : ℕ) (w : List ℕ) (front : ℕ) (file : List ℕ) (m n p : ℕ) : Type 0 where
  pub first : 1 ≤ p
  pub within : p ≤ n
  pub unnamed : Unnamed size w m p
  pub before : (q : ℕ) → 1 ≤ q → q < p → ¬ IsGone size w front file m q

-- what isn't known of the n pages at m: the first page that is gone, or, if none is, how many they are
abbrev pub IsLostAt : (size : ℕ) → List ℕ → (front : ℕ) (file : List ℕ) (m n : ℕ) → Loss → Type 0
IsLostAt size w front file m n (Copied p i) = IsFirstLost size w front file m n p
IsLostAt size w front file m n (CutAway p i) = IsFirstLost size w front file m n p
IsLostAt size w front file m n (CutShort i) = AreAllThere size w front file m n × IsByLength size file m
IsLostAt size w front file m n Lengthened = AreAllThere size w front file m n × IsByLength size file m

-- that, and why
abbrev pub IsLoss : (size : ℕ) → List ℕ → (front : ℕ) (file : List ℕ) (m n : ℕ) → Loss → Type 0
IsLoss size w front file m n loss = IsLostAt size w front file m n loss × IsReason size w front file loss

-- This is why the n pages at m aren't known; none if they are.
abbrev pub IsLossIn : (size : ℕ) → List ℕ → (front : ℕ) (file : List ℕ) (m n : ℕ) → Option Loss → Type 0
IsLossIn size w front file m n (Some loss) = IsLoss size w front file m n loss
IsLossIn size w front file m n None = IsKnown size w front file m n

-- the same of the pages that the frames up to m and the file have
abbrev pub IsLossOf : (size : ℕ) → List ℕ → (front : ℕ) (file : List ℕ) (m : ℕ) → Option Loss → Type 0
IsLossOf size w front file m loss = (d : Database) × IsOverFile size w m file d × IsLossIn size w front file m (length d) loss

-- What is lost for a reason isn't known.
abbrev pub LossIsLost : Type 0
LossIsLost = (size : ℕ) (w : List ℕ) (front : ℕ) (file : List ℕ) (m n : ℕ) (loss : Loss) → IsLoss size w front file m n loss
    → IsLost size w front file m n
