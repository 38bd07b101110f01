-- What an engine keeps of what a crash may leave (own).
use Rattle.std.specs.Prelude.{◌≡◌, ℕ, ◌<◌, ◌+◌, Bool, List, length, get_or}
use Rattle.crashdisk.specs.State.{FileState, IsImage}

-- each file that a crash may leave has this byte there
pub record IsFixed (sector : ℕ) (tears : Bool) (s : FileState) (i b : ℕ) : Type 0 where
  pub within : i < s.least
  pub each : (c : List ℕ) → IsImage sector tears s c → get_or c i 0 ≡ b

-- each file that a crash may leave has these bytes there
abbrev pub HasFixed : (sector : ℕ) (tears : Bool) → FileState → (at : ℕ) → List ℕ → Type 0
HasFixed sector tears s at bytes = (i : ℕ) → i < length bytes → IsFixed sector tears s (at + i) (get_or bytes i 0)
