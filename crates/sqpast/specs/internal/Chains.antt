-- The frames of a log by the pages that they name, and what a page of the file is like (own).
use Rattle.std.specs.Prelude.{◌≡◌, ◌≢◌, ◌⊎◌, ◌↔◌, ℕ, ◌-◌, ◌^◌, ◌<◌, ◌≤◌, IsTrue, Bool, List, length, get_or}
use Rattle.sqval.specs.Database.{file_page, file_pages}
use Rattle.sqwal.specs.Frames.{page_of, size_of, content_of, IsCommit, IsValidFrame}
use Rattle.history.specs.Known.{IsCutAway, IsGone}
use Rattle.history.specs.Checkpoints.{zero_page, IsCopied}
use Rattle.sqpast.specs.declared.chains.Chains.{Chains}
use Rattle.sqpast.specs.declared.gone.Judged.{Judged}
use Rattle.sqpast.specs.declared.likeness.Likeness.{Likeness}

-- f is the first frame after this one, up to the front, that names page p; 0 where none does
abbrev pub IsNextFrame : (size : ℕ) → List ℕ → (front after p f : ℕ) → Type 0
IsNextFrame size w front after p f =
    ((f ≡ 0) × ((i : ℕ) → after < i → i ≤ front → page_of size w i ≢ p))
    ⊎ ((after < f) × (f ≤ front) × (page_of size w f ≡ p) × ((i : ℕ) → after < i → i < f → page_of size w i ≢ p))

-- of each of so many pages the first frame after this one that names it, and of each such frame the next
pub record AreChainsFrom (size : ℕ) (w : List ℕ) (front pages after : ℕ) (first next : List ℕ) : Type 0 where
  pub long : length first ≡ pages
  pub frames : length next ≡ front
  pub each : (p : ℕ) → 1 ≤ p → p ≤ pages → IsNextFrame size w front after p (get_or first (p - 1) 0)
  pub further : (i p : ℕ) → after < i → i ≤ front → 1 ≤ p → p ≤ pages → page_of size w i ≡ p → IsNextFrame size w front i p (get_or next (i - 1) 0)

-- no commit has fewer pages, and one has so many
pub record IsLeastCommit (size : ℕ) (w : List ℕ) (front least : ℕ) : Type 0 where
  pub below : (j : ℕ) → 1 ≤ j → j ≤ front → IsCommit size w j → least ≤ size_of size w j
  pub one : (j : ℕ) × (1 ≤ j) × (j ≤ front) × IsCommit size w j × (size_of size w j ≡ least)

-- all frames of a log up to its front, by so many pages
pub record AreChains (w : List ℕ) (front pages : ℕ) (c : Chains) : Type 0 where
  pub valid : IsValidFrame c.page_size w front
  pub chains : AreChainsFrom c.page_size w front pages 0 c.first.items c.next.items
  pub least : IsLeastCommit c.page_size w front c.least
  pub low : front < 2 ^ 32

-- whether a page of the file is zeros, and whether it has the bytes of a frame that names it
pub record IsLike (size : ℕ) (w : List ℕ) (front : ℕ) (file : List ℕ) (p : ℕ) (like : Likeness) : Type 0 where
  pub zero : IsTrue like.zero ↔ (file_page size file p ≡ zero_page size)
  pub copied : IsTrue like.copied ↔ IsCopied size w front file p

-- a frame up to the front names page p and has these bytes
abbrev pub NamesAny : (size : ℕ) → List ℕ → (front p : ℕ) (bytes : List ℕ) → Type 0
NamesAny size w front p bytes = (i : ℕ) × (1 ≤ i) × (i ≤ front) × (page_of size w i ≡ p) × (bytes ≡ content_of size w i)

-- before which commit no frame names a page, by the first that does; 0 is none
abbrev pub IsUntilNamed : (first until : ℕ) → Type 0
IsUntilNamed first until = ((first ≡ 0) × (until ≡ 4294967295)) ⊎ ((1 ≤ first) × (until ≡ first))

-- page p is gone at the commits before this one
abbrev pub IsUntil : (size : ℕ) → List ℕ → (front : ℕ) (file : List ℕ) (p until : ℕ) → Type 0
IsUntil size w front file p until = (m : ℕ) → m < front → IsGone size w front file m p ↔ (m < until)

-- What follows page k in a file of so many: the smallest commit is no longer than the file, and each page is zeros or
-- copied. Otherwise none up to k may have been cut away.
pub record IsTail (size : ℕ) (w : List ℕ) (front : ℕ) (file : List ℕ) (least k : ℕ) (tail : Bool) : Type 0 where
  pub yes : IsTrue tail → (least ≤ file_pages size file) × ((q : ℕ) → k < q → q ≤ file_pages size file → IsCopied size w front file q ⊎ (file_page size file q ≡ zero_page size))
  pub no : ¬ IsTrue tail → (p : ℕ) → p ≤ k → ¬ IsCutAway size w front file p

-- page p was judged, and what follows the page before it
pub record IsJudged (size : ℕ) (w : List ℕ) (front : ℕ) (file : List ℕ) (least p : ℕ) (judged : Judged) : Type 0 where
  pub until : IsUntil size w front file p judged.until
  pub tail : IsTail size w front file least (p - 1) judged.tail
