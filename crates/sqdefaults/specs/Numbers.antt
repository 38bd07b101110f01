-- What the affinities make of texts that read as numbers (SQLite's datatype3, 3), as the kit reads these.
use Rattle.std.specs.Prelude.{ℕ, ℤ, pos, negsuc, ◌^◌, ◌-◌, ◌&&◌, int_lt, if◌then◌else◌, Bool, List, is_nan, to_bits}
use Rattle.std.specs.Float.{Float, binary64, float_to_signed}
use Rattle.std.specs.Float.Ieee
use Rattle.std.specs.Fmt.{signed_decimal}
use Rattle.std.specs.Int.{w64, to_be_bytes}
use Rattle.sqlite_value.specs.declared.value.Value.{Value}
use Rattle.sqlite_value.specs.declared.value.Value.TheVariants as value
use Rattle.sqlite_sql.specs.Ops.{numeric}
use Rattle.sqlite_sql.specs.Numeral.{number_at_front}
use Rattle.sqval.specs.Datum.{Datum, null, integer, real, text, blob}
use Rattle.sqdefaults.specs.declared.affinity.Affinity.{Affinity}
use Rattle.sqdefaults.specs.declared.affinity.Affinity.TheVariants.{Integer, Text, Blob, Real, Numeric}

-- a number in its eight bytes; what is none is NULL
abbrev pub in_bytes : Float → Datum
in_bytes x = if is_nan x then null else real (to_be_bytes w64 (to_bits binary64 x))

-- the number without its fraction
abbrev pub whole_of : Float → ℤ
whole_of x = float_to_signed w64 x

-- It is neither the least nor the greatest integer of 64 bits.
abbrev pub is_inner : ℤ → Bool
is_inner n = int_lt (negsuc 9223372036854775807) n && int_lt n (pos 9223372036854775807)

-- a number: an integer where it is whole, and such a one
abbrev pub whole_or_real : Float → Datum
whole_or_real x = if Ieee.eq (Ieee.of_int binary64 (whole_of x)) x && is_inner (whole_of x) then integer (whole_of x) else in_bytes x

abbrev pub of_number : Value → Datum
of_number value.Null = null
of_number (value.Int n) = integer n
of_number (value.Real x) = whole_or_real x
of_number (value.Text t) = text t
of_number (value.Blob b) = blob b

-- A text under affinity INTEGER or NUMERIC: the number that it reads as, where it does.
abbrev pub as_numeric : List ℕ → Datum
as_numeric t = of_number (numeric (value.Text t))

-- an integer under affinity REAL
abbrev pub as_real : Datum → Datum
as_real (integer n) = in_bytes (Ieee.of_int binary64 n)
as_real d = d

-- A text under an affinity.
abbrev pub of_text : Affinity → List ℕ → Datum
of_text Text t = text t
of_text Blob t = text t
of_text Integer t = as_numeric t
of_text Numeric t = as_numeric t
of_text Real t = as_real (as_numeric t)

-- below 2^31, but for the sign
abbrev pub is_short : ℤ → Bool
is_short n = int_lt (negsuc 2147483647) n && int_lt n (pos 2147483648)

-- the text of a number that is written so: an integer below 2^31 in its digits, and any other one as it is written
abbrev pub written_by : Value → List ℕ → List ℕ
written_by (value.Int n) t = if is_short n then signed_decimal n else t
written_by _ t = t

-- A number that is written so, with its sign, under an affinity. Without one it is what it is under NUMERIC.
abbrev pub of_numeral : Affinity → List ℕ → Datum
of_numeral Text t = text (written_by (number_at_front t) t)
of_numeral Blob t = as_numeric t
of_numeral Integer t = as_numeric t
of_numeral Numeric t = as_numeric t
of_numeral Real t = as_real (as_numeric t)
