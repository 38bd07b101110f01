-- The commits of a log (fileformat2, 4.1).
use Rattle.std.specs.Prelude.{◌≡◌, ℕ, ◌<◌, ◌≤◌, List, length, get_or}
use Rattle.sqwal.specs.Frames.{IsValidFrame, IsCommit}

-- those up to frame n
pub record AreCommitsTo (size : ℕ) (w : List ℕ) (n : ℕ) (list : List ℕ) : Type 0 where
  pub rising : (i j : ℕ) → i < j → j < length list → get_or list i 0 < get_or list j 0
  pub within : (i : ℕ) → i < length list → get_or list i 0 ≤ n
  pub each : (i : ℕ) → i < length list → IsValidFrame size w (get_or list i 0) × IsCommit size w (get_or list i 0)
  pub all : (m : ℕ) → m ≤ n → IsValidFrame size w m → IsCommit size w m → (i : ℕ) × (i < length list) × (get_or list i 0 ≡ m)
