-- Sums over four parts of bytes side by side, each in its lane of two vectors (own).
use Rattle.std.specs.Prelude.{ℕ, ◌+◌, ◌*◌, ◌%◌, ◌^◌, List, [], ◌∷◌, get_or}
use Rattle.sqval.specs.Bytes.{part}
use Rattle.sqwal.specs.Sums.{IsSumOf, GoesOn}
use Rattle.sqwal.specs.declared.sum.Order.{Order}
use Rattle.sqwal.specs.declared.sum.Sum.{Sum}

-- of each of four lists what stands at a place
abbrev pub column : ℕ → (a b c d : List ℕ) → List ℕ
column k a b c d = get_or a k 0 ∷ get_or b k 0 ∷ get_or c k 0 ∷ get_or d k 0 ∷ []

-- a sum of two words, as 32 bits have it
abbrev pub wrapping_sum : ℕ → ℕ → ℕ
wrapping_sum a b = (a + b) % 2 ^ 32

-- the sum in a lane
abbrev pub lane : (first second : List ℕ) → ℕ → Sum
lane first second k = record { s0 = get_or first k 0; s1 = get_or second k 0 }

-- after the first pieces of 16 bytes of each of four parts, which have so many: the first lane's sum goes on from one
-- before, and the others' are from zero
pub record AreLanes (order : Order) (bytes : List ℕ) (count done : ℕ) (start : Sum) (first second : List ℕ) : Type 0 where
  pub goes_on : GoesOn order (part bytes 0 (16 * done)) start (lane first second 0)
  pub from_zero : IsSumOf order (part bytes (16 * count) (16 * done)) (lane first second 1)
  pub from_zero_too : IsSumOf order (part bytes (2 * (16 * count)) (16 * done)) (lane first second 2)
  pub last : IsSumOf order (part bytes (3 * (16 * count)) (16 * done)) (lane first second 3)
