-- Texts that read as numbers (datatype3, 3.2: well-formed integers and real numbers).
use Rattle.std.specs.Prelude.{ℕ, ◌+◌, ◌&&◌, ◌||◌, not, nat_eq, nat_le, nat_lt, if◌then◌else◌, Bool, true, List, [], ◌∷◌, length, take, drop, position, unwrap_or}
use Rattle.std.specs.Char.{is_ascii_digit}
use Rattle.std.specs.List.{list_all}

-- SQLite's spaces: those of ASCII from 9 to 13, and 32
abbrev pub is_space : ℕ → Bool
is_space b = nat_eq b 32 || (nat_le 9 b && nat_le b 13)

abbrev pub is_point : ℕ → Bool
is_point b = nat_eq b 46

abbrev pub is_e : ℕ → Bool
is_e b = nat_eq b 69 || nat_eq b 101

-- how many bytes come before the first that is one of these; those bytes, and what comes from there on
abbrev pub before : (is : ℕ → Bool) → List ℕ → ℕ
before is bytes = unwrap_or (position is bytes) (length bytes)

abbrev pub front : (is : ℕ → Bool) → List ℕ → List ℕ
front is bytes = take (before is bytes) bytes

abbrev pub rest : (is : ℕ → Bool) → List ℕ → List ℕ
rest is bytes = drop (before is bytes) bytes

-- what stands behind a sign, where there is one
abbrev pub unsigned : List ℕ → List ℕ
unsigned [] = []
unsigned (b ∷ bytes) = if nat_eq b 43 || nat_eq b 45 then bytes else b ∷ bytes

-- one digit, or more
abbrev pub is_whole : List ℕ → Bool
is_whole digits = nat_lt 0 (length digits) && list_all is_ascii_digit digits

-- nothing, or a point and digits
abbrev pub is_fraction : List ℕ → Bool
is_fraction [] = true
is_fraction (point ∷ digits) = list_all is_ascii_digit digits

-- Digits, and a point among them or none: at least one digit.
abbrev pub is_mantissa : List ℕ → Bool
is_mantissa bytes = list_all is_ascii_digit (front is_point bytes) && is_fraction (rest is_point bytes)
    && nat_lt 0 (length (front is_point bytes) + length (drop 1 (rest is_point bytes)))

-- nothing, or an e and a whole number
abbrev pub is_exponent : List ℕ → Bool
is_exponent [] = true
is_exponent (e ∷ bytes) = is_whole (unsigned bytes)

abbrev pub is_decimal : List ℕ → Bool
is_decimal word = is_mantissa (front is_e word) && is_exponent (rest is_e word)

-- A decimal number up to the first space, and spaces behind it.
abbrev pub is_spaced : List ℕ → Bool
is_spaced bytes = is_decimal (front is_space bytes) && list_all is_space (rest is_space bytes)

-- The text reads as a number: behind spaces and a sign.
unfoldable pub is_number : List ℕ → Bool
is_number text = is_spaced (unsigned (rest (λ b. not (is_space b)) text))
