-- What the parts of `known_commits` promise one another (own).
use Rattle.std.specs.Prelude.{◌≡◌, ◌≢◌, ◌⊎◌, ◌==◌, cond, min, ℕ, ◌≤◌, List, length}
use Rattle.sqval.specs.Database.{file_page}
use Rattle.sqwal.specs.Frames.{size_of, content_of, IsValidFrame}
use Rattle.sqwal.specs.View.{Unnamed, IsLast}
use Rattle.history.specs.Past.{valid_count}
use Rattle.history.specs.Table.{AreThere}

-- no valid frame up to this one has a greater size
abbrev pub AreAtMost : (size : ℕ) → List ℕ → (frames most : ℕ) → Type 0
AreAtMost size w frames most = (j : ℕ) → 1 ≤ j → j ≤ frames → IsValidFrame size w frames → size_of size w j ≤ most

-- the pages 1 to n are in the list, and none is gone at commit m
abbrev pub IsThereUpTo : (until : List ℕ) (m n : ℕ) → Type 0
IsThereUpTo until m n = (n ≤ length until) × AreThere until m n

-- the header's count in page 1 of the frames 1 to m over the file
abbrev pub IsFirstCount : (size : ℕ) → List ℕ → (file : List ℕ) (m count : ℕ) → Type 0
IsFirstCount size w file m count =
    (Unnamed size w m 1 × (count ≡ valid_count (file_page size file 1)))
    ⊎ ((i : ℕ) × IsLast size w m 1 i × (count ≡ valid_count (content_of size w i)))

-- the header's count in page 1 after a frame of this page whose first bytes are these
abbrev pub IsCountAfter : (page : ℕ) (head : List ℕ) (before count : ℕ) → Type 0
IsCountAfter page head before count = ((page ≡ 1) × (count ≡ valid_count head)) ⊎ ((page ≢ 1) × (count ≡ before))

-- frame m ends a commit of so many pages, and is the front, or none of its pages is gone
abbrev pub IsKnownBy : (until : List ℕ) (m front size first : ℕ) → Type 0
IsKnownBy until m front size first = (size ≢ 0) × ((m ≡ front) ⊎ IsThereUpTo until m (cond (first == 0) size (min first size)))
