-- The form of a text in an encoding (fileformat2, 1.3.13; the Unicode Standard, 3.9).
use Rattle.std.specs.Prelude.{◌≡◌, ℕ, zero, suc, ◌+◌, ◌*◌, ◌%◌, ◌==◌, ◌&&◌, nat_le, nat_lt, if◌then◌else◌, Bool, true, false, List, length, get_or}
use Rattle.std.specs.Str.{IsUtf8}
use Rattle.sqdeep.specs.declared.text.Encoding.{Encoding}
use Rattle.sqdeep.specs.declared.text.Encoding.TheVariants.{Utf8, Utf16Le, Utf16Be}

-- the encoding that a number of the header stands for; where no text is stored that may be 0
abbrev pub encoding_named : ℕ → Encoding
encoding_named n = if n == 2 then Utf16Le else (if n == 3 then Utf16Be else Utf8)

-- the two bytes of a unit are in this order
abbrev pub unit_of : (big : Bool) → (first second : ℕ) → ℕ
unit_of true first second = first * 256 + second
unit_of false first second = second * 256 + first

-- unit k of UTF-16, and 0 past the end
abbrev pub unit : (big : Bool) → List ℕ → (k : ℕ) → ℕ
unit big bytes k = unit_of big (get_or bytes (2 * k) 0) (get_or bytes (2 * k + 1) 0)

-- the first and the second unit of a pair
abbrev pub is_high : ℕ → Bool
is_high u = nat_le 0xD800 u && nat_lt u 0xDC00

abbrev pub is_low : ℕ → Bool
is_low u = nat_le 0xDC00 u && nat_lt u 0xE000

-- unit k stands behind the first one of a pair
abbrev pub follows_high : (units : ℕ → ℕ) → (k : ℕ) → Bool
follows_high units zero = false
follows_high units (suc k) = is_high (units k)

-- UTF-16: whole units, and the second ones of pairs are just those behind first ones.
pub record IsUtf16 (big : Bool) (bytes : List ℕ) : Type 0 where
  pub whole : length bytes % 2 ≡ 0
  pub paired : (k : ℕ) → is_low (unit big bytes k) ≡ follows_high (unit big bytes) k

-- the bytes are a text in this encoding
abbrev pub IsTextIn : Encoding → List ℕ → Type 0
IsTextIn Utf8 bytes = IsUtf8 bytes
IsTextIn Utf16Le bytes = IsUtf16 false bytes
IsTextIn Utf16Be bytes = IsUtf16 true bytes
