-- Parts of a file and the numbers in it (fileformat2, 1.2).
use Rattle.std.specs.Prelude.{ℕ, ◌<◌, List, take, drop, get_or}
use Rattle.byteorder.specs.Endian.{big_number}

-- the n bytes from a place, or as many of them as there are
abbrev pub part : List ℕ → (at n : ℕ) → List ℕ
part w at n = take n (drop at w)

-- the 32-bit number at a place, the highest byte first
abbrev pub word : List ℕ → (at : ℕ) → ℕ
word w at = big_number 4 (part w at 4)

-- each number of the list is a byte
abbrev pub AreBytes : List ℕ → Type 0
AreBytes w = (i : ℕ) → get_or w i 0 < 256
