-- How large a database may be and how long a log, where they are read (own).
use Rattle.std.specs.Prelude.{ℕ, ◌≤◌}
use Rattle.sqval.specs.CommitFaults.{most_bytes}

-- the most bytes of a database, and the most valid frames of a log
pub record Bounds : Type 0 where
  pub bytes : ℕ
  pub frames : ℕ

-- the limits of what is written, and of what is read where none are named
abbrev pub usual : Bounds
usual = record { bytes = most_bytes; frames = 2097152 }

-- the greatest: the number of the frame behind the last one is below 2 ^ 32
abbrev pub greatest : Bounds
greatest = record { bytes = 1099511627776; frames = 4294967294 }

-- nothing is above the greatest
abbrev pub AreLimits : (bytes frames : ℕ) → Type 0
AreLimits bytes frames = (bytes ≤ greatest.bytes) × (frames ≤ greatest.frames)
