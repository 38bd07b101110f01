-- The values that the two parts of a record show (fileformat2, 2.1).
use Rattle.std.specs.Prelude.{ℕ, zero, suc, ◌+◌, ◌*◌, List, [], ◌∷◌, length, take, drop, slice_index, ◌==◌, nat_le, nat_lt, if◌then◌else◌}
use Rattle.std.specs.List.{prefix_len}
use Rattle.sqval.specs.Varint.{number_of_sevens}
use Rattle.sqval.specs.Datum.{Datum}
use Rattle.sqval.specs.Serial.{body_size, held}

-- how many bytes the varint at the front takes, whether they are all there or not
abbrev pub size_at : List ℕ → ℕ
size_at bytes = 1 + prefix_len (λ byte. nat_le 128 byte) (take 8 bytes)

-- its number
abbrev pub number_at : List ℕ → ℕ
number_at bytes =
    if size_at bytes == 9 then 256 * number_of_sevens (take 8 bytes) + slice_index bytes 8
    else number_of_sevens (take (size_at bytes) bytes)

-- the numbers of the whole varints at the front, and no more than this many
abbrev pub numbers_within : (most : ℕ) → List ℕ → List ℕ
numbers_within zero bytes = []
numbers_within (suc most) bytes =
    if nat_lt (length bytes) (size_at bytes) then []
    else number_at bytes ∷ numbers_within most (drop (size_at bytes) bytes)

-- the serial types of a header
unfoldable pub serials : List ℕ → List ℕ
serials bytes = numbers_within (length bytes) bytes

-- what bodies of these serial types hold
abbrev pub values_held : (types : List ℕ) → List ℕ → List Datum
values_held [] bytes = []
values_held (serial ∷ types) bytes =
    held serial (take (body_size serial) bytes) ∷ values_held types (drop (body_size serial) bytes)
