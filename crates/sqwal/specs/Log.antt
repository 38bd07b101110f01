-- Logs as they are made (fileformat2, 4.1).
use Rattle.std.specs.Prelude.{◌≡◌, ℕ, List, length}
use Rattle.sqwal.specs.Header.{IsHeader}
use Rattle.sqwal.specs.Frames.{frame_end, AllPass}

-- a header and n frames behind it, all valid, and nothing more
pub record IsLog (size : ℕ) (w : List ℕ) (n : ℕ) : Type 0 where
  pub header : IsHeader size w
  pub whole : length w ≡ frame_end size n
  pub all : AllPass size w n
