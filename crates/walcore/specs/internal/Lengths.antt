-- How long the file is that a crash leaves, while a log is folded into it (own).
use Rattle.std.specs.Prelude.{ℕ, ◌≤◌, List}
use Rattle.sqwal.specs.Header.{named_size}
use Rattle.sqwal.specs.Frames.{IsFront}
use Rattle.crashdisk.specs.Call.{DiskState}
use Rattle.crashdisk.specs.Keeps.{IsLogDurable}

-- the log that is durable has a front
pub record IsFronted (w : List ℕ) (m : ℕ) (s : DiskState) : Type 0 where
  pub durable : IsLogDurable s w
  pub some : 1 ≤ m
  pub front : IsFront (named_size w) w m
