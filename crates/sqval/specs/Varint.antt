-- Varints: numbers of 64 bits in one to nine bytes (fileformat2, 1.6).
use Rattle.std.specs.Prelude.{◌≡◌, ℕ, ◌+◌, ◌-◌, ◌*◌, ◌%◌, ◌^◌, ◌<◌, ◌≤◌, List, [], ◌∷◌, length, take, slice_index}

-- the number whose digits to the base 128 are the low seven bits of the bytes, the highest first
abbrev pub number_of_sevens : List ℕ → ℕ
number_of_sevens [] = 0
number_of_sevens (byte ∷ rest) = (byte % 128) * 128 ^ length rest + number_of_sevens rest

-- the bytes are a varint of the number
pub record Spells (number : ℕ) (bytes : List ℕ) : Type 0 where
  pub at_least_one : 1 ≤ length bytes
  pub at_most_nine : length bytes ≤ 9
  -- the top bit says that another byte follows
  pub goes_on : (i : ℕ) → i + 1 < length bytes → 128 ≤ slice_index bytes i
  pub ends : length bytes < 9 → slice_index bytes (length bytes - 1) < 128
  pub short : length bytes < 9 → number ≡ number_of_sevens bytes
  -- a ninth byte gives all of its bits
  pub long : length bytes ≡ 9 → number ≡ 256 * number_of_sevens (take 8 bytes) + slice_index bytes 8

-- the bytes begin with a varint of the number, of this many bytes
pub record Begins (number size : ℕ) (bytes : List ℕ) : Type 0 where
  pub within : size ≤ length bytes
  pub front : Spells number (take size bytes)
