-- What is looked for of a page that is gone (own).
use Rattle.std.specs.Prelude.{◌≡◌, ◌≢◌, ◌⊎◌, ℕ, ◌<◌, ◌≤◌, Bool, true, false, List, Option, None, Some}
use Rattle.sqval.specs.Database.{file_page, file_pages}
use Rattle.sqwal.specs.Frames.{page_of, size_of, content_of, IsCommit}
use Rattle.history.specs.Checkpoints.{IsCopied}
use Rattle.history.specs.Known.{IsByLength, IsCutAway, IsLengthGone}
use Rattle.history.specs.Past.{valid_count}
use Rattle.view_loss.specs.Losses.{AreAllThere, IsLoss, IsReason}
use Rattle.view_loss.specs.declared.loss.Loss.{Loss}
use Rattle.view_loss.specs.declared.loss.Loss.TheVariants.{Copied, CutAway, CutShort, Lengthened}
use Rattle.view_loss.specs.declared.start.Start.{Start}

-- page p of the file is copied, or cut away
abbrev pub IsChanged : (size : ℕ) → List ℕ → (front : ℕ) (file : List ℕ) (p : ℕ) → Type 0
IsChanged size w front file p = ((p ≤ file_pages size file) × IsCopied size w front file p) ⊎ IsCutAway size w front file p

-- frame i names page p, and has these bytes
pub record IsCopyOf (size : ℕ) (w : List ℕ) (front p : ℕ) (bytes : List ℕ) (i : ℕ) : Type 0 where
  pub first : 1 ≤ i
  pub within : i ≤ front
  pub names : page_of size w i ≡ p
  pub same : bytes ≡ content_of size w i

-- no frame up to this one is
abbrev pub IsNoCopy : (size : ℕ) → List ℕ → (frames p : ℕ) (bytes : List ℕ) → Type 0
IsNoCopy size w frames p bytes = (i : ℕ) → 1 ≤ i → i ≤ frames → page_of size w i ≡ p → bytes ≢ content_of size w i

-- frame i ends a commit of fewer than p pages, and no more than these
pub record IsCutBy (size : ℕ) (w : List ℕ) (front p long i : ℕ) : Type 0 where
  pub first : 1 ≤ i
  pub within : i ≤ front
  pub commit : IsCommit size w i
  pub below : size_of size w i < p
  pub least : size_of size w i ≤ long

-- no frame up to this one does
abbrev pub IsNoCut : (size : ℕ) → List ℕ → (frames p long : ℕ) → Type 0
IsNoCut size w frames p long = (i : ℕ) → 1 ≤ i → i ≤ frames → IsCommit size w i → size_of size w i < p → ¬ (size_of size w i ≤ long)

-- frame i has the bytes of page p of the file, and names it; or none does
abbrev pub IsCopiedOf : (size : ℕ) → List ℕ → (front : ℕ) (file : List ℕ) (p : ℕ) → (found : Option ℕ) → Type 0
IsCopiedOf size w front file p (Some i) = IsReason size w front file (Copied p i)
IsCopiedOf size w front file p None = ¬ ((p ≤ file_pages size file) × IsCopied size w front file p)

-- this is why page p is
abbrev pub IsReasonOf : (size : ℕ) → List ℕ → (front : ℕ) (file : List ℕ) (p : ℕ) → Option Loss → Type 0
IsReasonOf size w front file p None = ⊥
IsReasonOf size w front file p (Some (Copied q i)) = (q ≡ p) × IsReason size w front file (Copied q i)
IsReasonOf size w front file p (Some (CutAway q i)) = (q ≡ p) × IsReason size w front file (CutAway q i)
IsReasonOf size w front file p (Some _) = ⊥

-- the first of pages 1 to n that is gone, and why; or none is
abbrev pub IsPageLoss : (size : ℕ) → List ℕ → (front : ℕ) (file : List ℕ) (m n : ℕ) → Option Loss → Type 0
IsPageLoss size w front file m n (Some loss) = IsLoss size w front file m n loss
IsPageLoss size w front file m n None = AreAllThere size w front file m n

-- how many pages the file has by its length, and by its first page
pub record IsStart (size : ℕ) (file : List ℕ) (s : Start) : Type 0 where
  pub long : s.long ≡ file_pages size file
  pub valid : s.valid ≡ valid_count (file_page size file 1)

-- why the length at 0 may be another than it was; none if it counts and is as it was, or if it doesn't count
abbrev pub IsLengthLoss : (size : ℕ) → List ℕ → (front : ℕ) (file : List ℕ) → Option Loss → Type 0
IsLengthLoss size w front file None = IsByLength size file 0 → ¬ IsLengthGone size w front file
IsLengthLoss size w front file (Some (CutShort i)) = IsByLength size file 0 × IsReason size w front file (CutShort i)
IsLengthLoss size w front file (Some Lengthened) = IsByLength size file 0 × IsReason size w front file Lengthened
IsLengthLoss size w front file (Some _) = ⊥

-- why it may be another if the last page is zeros
abbrev pub lengthened_if : Bool → Option Loss
lengthened_if true = Some Lengthened
lengthened_if false = None
