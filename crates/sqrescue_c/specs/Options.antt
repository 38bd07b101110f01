-- How a path is opened, as a caller says it (own).
use Rattle.std.specs.Prelude.{◌≡◌, ℕ, ◌+◌, ◌/◌, ◌%◌, ◌<◌, ◌≤◌, nat_lt, cond, List, length, get_or}
use Rattle.byteorder.specs.Endian.{little_number}
use Rattle.sqval.specs.Bytes.{part}
use Rattle.sqrescue_c.specs.declared.options.Asked.{Asked}

-- the bytes from a place on are zeros
abbrev pub IsZeros : (options : List ℕ) → (from : ℕ) → Type 0
IsZeros options from = (i : ℕ) → from ≤ i → i < length options → get_or options i 0 ≡ 0

-- this version knows the flags, and the options that aren't zero
pub record AreKnown (flags : ℕ) (options : List ℕ) : Type 0 where
  pub low : flags < 128
  pub not_complete : flags / 32 % 2 ≡ 0
  pub zeros : IsZeros options 16

-- the option of 4 bytes at a place; the usual one where the options end before
abbrev pub option_at : (options : List ℕ) → (at usual : ℕ) → ℕ
option_at options at usual = cond (nat_lt (length options) (at + 4)) usual (little_number 4 (part options at 4))

-- what the options ask for
pub record AreAsked (options : List ℕ) (asked : Asked) : Type 0 where
  pub wait : asked.wait ≡ option_at options 8 5000
  pub at : asked.at ≡ option_at options 12 0
