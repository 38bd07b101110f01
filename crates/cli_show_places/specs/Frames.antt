-- The frames of a write-ahead log in which the pages of a view stand (fileformat2, 4.4).
use Rattle.std.specs.Prelude.{ℕ, ◌≤◌, List, Option, Some, None}
use Rattle.sqwal.specs.View.{Unnamed, IsLast}
use Rattle.sqview.specs.Origins.{AreFramePlaces}
use Rattle.sqview.specs.declared.view.View.{View}

-- A page stands in the last of the frames 1 to m that names it, and in none where none of them does.
abbrev pub IsFrameOf : (size : ℕ) → (w : List ℕ) → (m p : ℕ) → Option ℕ → Type 0
IsFrameOf size w m p None = Unnamed size w m p
IsFrameOf size w m p (Some i) = IsLast size w m p i

-- These are the frames of the pages up to the count.
abbrev pub AreFrames : (size : ℕ) → (w : List ℕ) → (m count : ℕ) → (frames : ℕ → Option ℕ) → Type 0
AreFrames size w m count frames = (p : ℕ) → 1 ≤ p → p ≤ count → IsFrameOf size w m p (frames p)

-- The places of a view are those of the frames of this log up to the one at which the view stands.
abbrev pub IsFramed : {F : Type 0} → (wal : List ℕ) → View F → Type 0
IsFramed wal v = 1 ≤ v.front → AreFramePlaces v.page_size wal v.front v.count v.places.items

-- P holds of the frames in which the pages of a view stand.
abbrev pub ArePlacesFramed : {F : Type 0} → (wal : List ℕ) → View F → (P : (frames : ℕ → Option ℕ) → Type 0) → Type 0
ArePlacesFramed wal v P = (frames : ℕ → Option ℕ) × AreFrames v.page_size wal v.front v.count frames × P frames
