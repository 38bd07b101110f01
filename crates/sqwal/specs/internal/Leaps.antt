-- What the sums of a log are taken times where words follow (own).
use Rattle.std.specs.Prelude.{◌≡◌, ℕ, ◌+◌, ◌-◌, ◌%◌, ◌^◌, ◌≤◌}
use Rattle.sqwal.specs.Sums.{fibonacci}
use Rattle.sqwal.specs.declared.leap.Leap.{Leap}

-- it has the Fibonacci numbers of so many words, of one fewer and of one more, as 32 bits have them
pub record IsLeap (words : ℕ) (leap : Leap) : Type 0 where
  pub some : 1 ≤ words
  pub before : leap.before ≡ fibonacci (words - 1) % 2 ^ 32
  pub here : leap.here ≡ fibonacci words % 2 ^ 32
  pub behind : leap.behind ≡ fibonacci (words + 1) % 2 ^ 32
