-- The frames of a log by the pages that they name (own).
use Rattle.std.specs.Prelude.{◌≡◌, ◌≢◌, ◌⊎◌, ℕ, ◌+◌, ◌-◌, ◌<◌, ◌≤◌, ◌==◌, cond, List, length, drop, get_or, count_by}
use Rattle.sqwal.specs.declared.index.Hit.{Hit}

-- No page above the bound is named; there is room for so many frames; and the pages that the frames 1, 2, .. name, 0
-- where nobody asks for a frame's page.
pub record FrameTable : Type 0 where
  pub bound : ℕ
  pub room : ℕ
  pub pages : List ℕ

-- the greatest frame up to the mark that names the page, or 0
pub record IsNewest (pages : List ℕ) (page mark frame : ℕ) : Type 0 where
  pub within : frame ≤ mark
  pub there : frame ≤ length pages
  pub names : 1 ≤ frame → get_or pages (frame - 1) 0 ≡ page
  pub newest : (i : ℕ) → frame < i → i ≤ mark → i ≤ length pages → get_or pages (i - 1) 0 ≢ page

-- The frame that a search finds, and its steps: one for each frame above the mark that names the page, and one for
-- the frame that is found. For page 0 and for a page above the bound it finds none, and takes no step.
pub record IsHit (t : FrameTable) (page mark : ℕ) (hit : Hit) : Type 0 where
  pub none : (page ≡ 0) ⊎ (t.bound < page) → (hit.frame ≡ 0) × (hit.steps ≡ 0)
  pub newest : page ≢ 0 → IsNewest t.pages page mark hit.frame
  pub steps : page ≢ 0 → hit.steps ≡ count_by (λ x. x == page) (drop mark t.pages) + cond (hit.frame == 0) 0 1
