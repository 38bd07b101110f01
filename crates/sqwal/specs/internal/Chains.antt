-- The frames of each page in two lists: the newest one, and for each frame the one before it (own).
use Rattle.std.specs.Prelude.{ℕ, zero, suc, ◌-◌, ◌<◌, ◌≤◌, ◌≡◌, ◌==◌, cond, List, [], ◌∷◌, ◌++◌, length, get_or, slice_set}
use Rattle.sqwal.specs.Index.{FrameTable, IsNewest}

-- the page up to the top whose newest frame is this one
unfoldable pub holder : (newest : List ℕ) → (frame top : ℕ) → ℕ
holder newest frame zero = 0
holder newest frame (suc p) = cond (get_or newest (suc p) 0 == frame) (suc p) (holder newest frame p)

-- the pages of the frames 1 to n: the last frame's page has it for its newest one, and had the one before it without it
unfoldable pub named : (newest earlier : List ℕ) → (n : ℕ) → List ℕ
named newest earlier zero = []
named newest earlier (suc n) =
    named (slice_set newest (holder newest (suc n) (length newest - 1)) (get_or earlier n 0)) earlier n
    ++ holder newest (suc n) (length newest - 1) ∷ []

-- what the two lists say of the pages that are named
pub record IsChained (newest earlier pages : List ℕ) : Type 0 where
  pub count : length earlier ≡ length pages
  pub bound : (i : ℕ) → i < length pages → get_or pages i 0 < length newest
  pub newest_is : (p : ℕ) → p < length newest → IsNewest pages p (length pages) (get_or newest p 0)
  pub earlier_is : (i : ℕ) → i < length pages → IsNewest pages (get_or pages i 0) i (get_or earlier i 0)

-- the table that the lists hold, with room for so many frames in a list of this capacity
abbrev pub table_of : (newest earlier : List ℕ) → (room : ℕ) → FrameTable
table_of newest earlier room = record { bound = length newest - 1; room = room; pages = named newest earlier (length earlier) }

-- both lists hold a table, with room for so many frames within the capacity
pub record IsIndex (newest earlier : List ℕ) (room capacity : ℕ) : Type 0 where
  pub chained : IsChained newest earlier (named newest earlier (length earlier))
  pub within : length earlier ≤ room
  pub fits : room ≤ capacity
  pub some : 1 ≤ room → 1 ≤ length newest
