-- When all that a crash may leave shows one database (own).
use Rattle.std.specs.Prelude.{◌≡◌, ℕ, ◌+◌, ◌≤◌, List}
use Rattle.sqval.specs.Database.{Database}
use Rattle.sqwal.specs.Header.{IsHeader, named_size}
use Rattle.sqwal.specs.Frames.{frame_at, IsValidFrame, IsFront}
use Rattle.sqwal.specs.View.{IsView}
use Rattle.crashdisk.specs.Keeps.{StandsWhole}
use Rattle.recovery.specs.Logs.{LogKind}

-- a valid header, of any page size, and each valid frame behind it stand whole
pub record AreWhole (kept : List ℕ) (handed : List (ℕ × List ℕ)) (w : List ℕ) : Type 0 where
  pub header : IsHeader (named_size w) w → StandsWhole kept handed w 0 32
  pub frame : (i : ℕ) → IsValidFrame (named_size w) w i → StandsWhole kept handed w (frame_at (named_size w) i) (24 + named_size w)

-- a file and its log show a database of pages of this size
abbrev pub Show : (size : ℕ) (db w : List ℕ) → Database → Type 0
Show size db w d = (m : ℕ) → IsFront (named_size w) w m → (1 ≤ m → named_size w ≡ size) × IsView size db w m d

-- a write-ahead log as a kind of log; with front 0 it is idle
abbrev pub wal_log : LogKind
wal_log = record { IsIdle = λ w. IsFront (named_size w) w 0; AreWhole = AreWhole; Show = Show }
