-- The sums of a log (fileformat2, 4.2).
use Rattle.std.specs.Prelude.{◌≡◌, ℕ, zero, suc, ◌+◌, ◌-◌, ◌*◌, ◌%◌, ◌^◌, List, [], ◌∷◌, ◌++◌, take, length}
use Rattle.byteorder.specs.Endian.{big_number, little_number}
use Rattle.sqwal.specs.declared.sum.Order.{Order}
use Rattle.sqwal.specs.declared.sum.Order.TheVariants.{Big, Little}
use Rattle.sqwal.specs.declared.sum.Sum.{Sum}

-- the number that four bytes spell
unfoldable pub number : Order → List ℕ → ℕ
number Big b = big_number 4 b
number Little b = little_number 4 b

-- 0, 1, 1, 2, 3, 5, ..
unfoldable pub fibonacci : ℕ → ℕ
fibonacci zero = 0
fibonacci (suc zero) = 1
fibonacci (suc (suc n)) = fibonacci (suc n) + fibonacci n

-- each word times the Fibonacci number of its place counted from the end, the last one's 1
unfoldable pub weighted : List ℕ → ℕ
weighted [] = 0
weighted (x ∷ xs) = x * fibonacci (length xs + 1) + weighted xs

-- the words of bytes
unfoldable pub words : Order → List ℕ → List ℕ
words o (a ∷ b ∷ c ∷ d ∷ rest) = number o (a ∷ b ∷ c ∷ d ∷ []) ∷ words o rest
words o _ = []

-- the sum over words, of which there is an even number: the weighted ones but for the last, and all of them
abbrev pub sum_0 : List ℕ → ℕ
sum_0 xs = weighted (take (length xs - 1) xs) % 2 ^ 32

abbrev pub sum_1 : List ℕ → ℕ
sum_1 xs = weighted xs % 2 ^ 32

-- a sum is that of these bytes
pub record IsSumOf (order : Order) (bytes : List ℕ) (sum : Sum) : Type 0 where
  pub first : sum.s0 ≡ sum_0 (words order bytes)
  pub second : sum.s1 ≡ sum_1 (words order bytes)

-- a sum goes on from that of any bytes before, in whole pairs of words, to that of these bytes too
abbrev pub GoesOn : Order → List ℕ → (before after : Sum) → Type 0
GoesOn order bytes before after = (front : List ℕ) → length front % 8 ≡ 0 → IsSumOf order front before → IsSumOf order (front ++ bytes) after
