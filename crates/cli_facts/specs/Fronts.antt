-- The last frame of a log that counts (fileformat2, 4.1).
use Rattle.std.specs.Prelude.{◌≡◌, ◌≢◌, ◌<◌, Option, None, Some, ℕ, List, slice_range}
use Rattle.sqwal.specs.Frames.{IsFront}
use Rattle.sqwal.specs.Header.{named_size}
use Rattle.cli_facts.specs.declared.fronts.Front.{Front}

-- the two salts of a frame, at 8 of its head, are those of the log's header, at 16
abbrev pub HasSalts : (header frame : List ℕ) → Type 0
HasSalts header frame = slice_range frame 8 16 ≡ slice_range header 16 24

-- the frame at which a view of pages of this size stands, none where it stands at 0
abbrev pub IsFrontOf : (frame size : ℕ) → Option Front → Type 0
IsFrontOf frame size None = frame ≡ 0
IsFrontOf frame size (Some front) = (frame ≢ 0) × (front.frame ≡ frame) × (front.page_size ≡ size)

-- the front of a log of these bytes, none where no frame counts
abbrev pub IsLogFront : (wal : List ℕ) → Option Front → Type 0
IsLogFront wal None = IsFront (named_size wal) wal 0
IsLogFront wal (Some front) = (0 < front.frame) × IsFront (named_size wal) wal front.frame × (front.page_size ≡ named_size wal)
