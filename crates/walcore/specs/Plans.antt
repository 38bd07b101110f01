-- What a fold plans of a scanned log (own).
use Rattle.std.specs.Prelude.{◌≡◌, ℕ, ◌-◌, ◌≤◌, List, length, get_or}
use Rattle.sqwal.specs.Frames.{page_of}
use Rattle.sqwal.specs.Index.{FrameTable}
use Rattle.sqval.specs.Limits.{Bounds, usual}
use Rattle.walcore.specs.Folding.{IsTooLargeWithin, IsOfOtherSize}

-- The frames 1 to m by the pages that they name, as far as these are pages of 1 to count. The table may have further
-- frames.
pub record IsTable (size count : ℕ) (w : List ℕ) (m : ℕ) (t : FrameTable) : Type 0 where
  pub long : m ≤ length t.pages
  pub finds : (i p : ℕ) → 1 ≤ i → i ≤ m → 1 ≤ p → p ≤ count → page_of size w i ≡ p → get_or t.pages (i - 1) 0 ≡ p
  pub found : (i p : ℕ) → 1 ≤ i → i ≤ m → 1 ≤ p → p ≤ count → get_or t.pages (i - 1) 0 ≡ p → page_of size w i ≡ p

-- the log is one that can be folded into pages of this size
pub record IsFitWithin (limits : Bounds) (size : ℕ) (w : List ℕ) : Type 0 where
  pub small : IsTooLargeWithin limits w → ⊥
  pub same : IsOfOtherSize size w → ⊥

-- the same at the usual limits
abbrev pub IsFit : (size : ℕ) → List ℕ → Type 0
IsFit size w = IsFitWithin usual size w
