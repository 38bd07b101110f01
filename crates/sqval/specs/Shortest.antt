-- The shortest record of values (fileformat2, 2.1; that it is the shortest is own).
use Rattle.std.specs.Prelude.{ℕ, ◌+◌, ◌-◌, ◌*◌, ◌^◌, ◌<◌, ◌≤◌, ℤ, pos, negsuc, List, length, sum_by, nat_lt, if◌then◌else◌}
use Rattle.sqval.specs.Bytes.{AreBytes}
use Rattle.sqval.specs.Datum.{Datum, null, integer, real, text, blob}
use Rattle.sqval.specs.Serial.{body_size}
use Rattle.sqval.specs.Record.{IsRecord, most_bytes}

-- a record of the values, of which no record is shorter
pub record IsShortestRecord (values : List Datum) (bytes : List ℕ) : Type 0 where
  pub whole : IsRecord values bytes
  pub least : (other : List ℕ) → AreBytes other → IsRecord values other → length bytes ≤ length other

-- each record of the values has too many bytes
abbrev pub AreTooLong : List Datum → Type 0
AreTooLong values = (bytes : List ℕ) → AreBytes bytes → IsRecord values bytes → most_bytes < length bytes

-- the type of the fewest bytes that hold a number so many steps from 0, or from -1 down
abbrev pub width : (steps : ℕ) → ℕ
width steps =
    if nat_lt steps (2 ^ 7) then 1
    else (if nat_lt steps (2 ^ 15) then 2
    else (if nat_lt steps (2 ^ 23) then 3
    else (if nat_lt steps (2 ^ 31) then 4
    else (if nat_lt steps (2 ^ 47) then 5
    else 6))))

-- 0 and 1 have types of their own
abbrev pub integer_serial : ℤ → ℕ
integer_serial (pos n) = if nat_lt n 2 then 8 + n else width n
integer_serial (negsuc n) = width n

-- the serial type of the shortest body
abbrev pub shortest_serial : Datum → ℕ
shortest_serial null = 0
shortest_serial (integer number) = integer_serial number
shortest_serial (real bytes) = 7
shortest_serial (text bytes) = 13 + 2 * length bytes
shortest_serial (blob bytes) = 12 + 2 * length bytes

-- how many bytes the shortest varint of a number takes
abbrev pub varint_size : (number : ℕ) → ℕ
varint_size number =
    if nat_lt number (128 ^ 1) then 1
    else (if nat_lt number (128 ^ 2) then 2
    else (if nat_lt number (128 ^ 3) then 3
    else (if nat_lt number (128 ^ 4) then 4
    else (if nat_lt number (128 ^ 5) then 5
    else (if nat_lt number (128 ^ 6) then 6
    else (if nat_lt number (128 ^ 7) then 7
    else (if nat_lt number (128 ^ 8) then 8
    else 9)))))))

-- the types and the bodies of the values take this many bytes at least
unfoldable pub types_size : List Datum → ℕ
types_size values = sum_by (λ value. varint_size (shortest_serial value)) values

unfoldable pub bodies_size : List Datum → ℕ
bodies_size values = sum_by (λ value. body_size (shortest_serial value)) values

-- the varint of a header's size, where the types take so many bytes
pub record IsSizeOfHeaderSize (types size : ℕ) : Type 0 where
  pub at_least_one : 1 ≤ size
  pub at_most_five : size ≤ 5
  pub enough : types + size < 128 ^ size
  pub least : 1 < size → 128 ^ (size - 1) ≤ types + (size - 1)

-- the header's size, the types and the bodies come to too many bytes, however short
abbrev pub IsTooLarge : List Datum → Type 0
IsTooLarge values =
    (size : ℕ) → IsSizeOfHeaderSize (types_size values) size
    → most_bytes < size + types_size values + bodies_size values
