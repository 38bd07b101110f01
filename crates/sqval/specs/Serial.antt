-- Serial types: what the body of a column is (fileformat2, 2.1).
use Rattle.std.specs.Prelude.{◌≡◌, ◌⊎◌, ℕ, ◌-◌, ◌/◌, ◌%◌, ℤ, pos, List, length, ◌==◌, nat_le, if◌then◌else◌}
use Rattle.byteorder.specs.Endian.{big_number, twos_complement}
use Rattle.sqval.specs.Datum.{Datum, null, integer, real, text, blob}

-- how many bytes a body of the serial type has
abbrev pub body_size : (serial : ℕ) → ℕ
body_size serial =
    if nat_le serial 4 then serial
    else (if serial == 5 then 6
    else (if nat_le serial 7 then 8
    else (if nat_le serial 11 then 0
    else (serial - 12) / 2)))

-- two types are kept for SQLite's own use and stand in no file
abbrev pub IsInternal : (serial : ℕ) → Type 0
IsInternal serial = (serial ≡ 10) ⊎ (serial ≡ 11)

-- the number that the bytes are in two's complement, the highest first
abbrev pub signed : List ℕ → ℤ
signed bytes = twos_complement (length bytes) (big_number (length bytes) bytes)

-- what a body of the serial type holds
abbrev pub held : (serial : ℕ) → (body : List ℕ) → Datum
held serial body =
    if serial == 0 then null
    else (if nat_le serial 6 then integer (signed body)
    else (if serial == 7 then real body
    else (if serial == 8 then integer (pos 0)
    else (if serial == 9 then integer (pos 1)
    else (if serial % 2 == 0 then blob body
    else text body)))))
