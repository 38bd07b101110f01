-- What the system answers of a file that keeps its word (own).
use Rattle.std.specs.Prelude.{◌≡◌, ℕ, ◌+◌, ◌<◌, ◌≤◌, ◌^◌, List, length, slice_index}

-- So many bytes of a file from a place on were read into a buffer: one at least, unless the buffer has no room or the file
-- ends there.
pub record IsPartRead (file : List ℕ) (at : ℕ) (out : List ℕ) (count : ℕ) : Type 0 where
  pub bytes : (k : ℕ) → k < count → slice_index out k ≡ slice_index file (at + k)
  pub within : 0 < count → at + count ≤ length file
  pub ends : count ≡ 0 → 0 < length out → length file ≤ at
  pub fits : length file < 2 ^ 64
