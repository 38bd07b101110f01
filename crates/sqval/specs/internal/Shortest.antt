-- The shortest record of values (fileformat2, 2.1; that it is the shortest is own).
use Rattle.std.specs.Prelude.{◌≡◌, ℕ, ◌≤◌, List, length, ⊤}
use Rattle.sqval.specs.Datum.{Datum, null, integer, real, text, blob}
use Rattle.sqval.specs.Serial.{body_size, held}
use Rattle.sqval.specs.Record.{most_bytes}
use Rattle.sqval.specs.Shortest.{shortest_serial}

-- a value that is not too long by itself
abbrev pub IsWritable : Datum → Type 0
IsWritable null = ⊤
IsWritable (integer number) = ⊤
IsWritable (real bytes) = ⊤
IsWritable (text bytes) = length bytes ≤ most_bytes
IsWritable (blob bytes) = length bytes ≤ most_bytes

-- a body of the shortest type that holds the value
pub record IsShortestBody (value : Datum) (body : List ℕ) : Type 0 where
  pub size : length body ≡ body_size (shortest_serial value)
  pub holds : held (shortest_serial value) body ≡ value
