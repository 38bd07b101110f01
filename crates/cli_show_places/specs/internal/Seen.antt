-- The frames of a view's pages, by what it shows (own).
use Rattle.std.specs.Prelude.{ℕ, zero, suc, ◌+◌, ◌-◌, ◌/◌, ◌≤◌, List, Option, Some, None}
use Rattle.sqview.specs.Laid.{place_of}
use Rattle.sqview.specs.Origins.{AreFramePlaces}
use Rattle.sqview.specs.Shapes.{Shape}
use Rattle.sqview.specs.declared.view.origin.Origin.{Origin}
use Rattle.sqview.specs.declared.view.origin.Origin.TheVariants as origins

-- the frame whose page begins at this place of a log, 0 where none does
abbrev pub frame_begun : (size at : ℕ) → Option ℕ
frame_begun size zero = None
frame_begun size (suc k) = Some ((suc k - 56) / (24 + size) + 1)

-- the frame of page p, where a view stands at this frame
abbrev pub frame_among : (front size : ℕ) → (places : List ℕ) → (p : ℕ) → Option ℕ
frame_among zero size places p = None
frame_among (suc m) size places zero = None
frame_among (suc m) size places (suc n) = frame_begun size (place_of places (suc n))

abbrev pub frames_in : Shape → (p : ℕ) → Option ℕ
frames_in shape p = frame_among shape.front shape.page_size shape.places p

-- The places are those of frames of some log.
abbrev pub IsKnown : Shape → Type 0
IsKnown shape = 1 ≤ shape.front → (w : List ℕ) × AreFramePlaces shape.page_size w shape.front shape.count shape.places

-- the frame that an origin is, if it is one
abbrev pub frame_told : Origin → Option ℕ
frame_told origins.File = None
frame_told (origins.Frame i) = Some i
frame_told (origins.Record at) = None
