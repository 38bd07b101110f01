-- How a row is written: as a JSON object (RFC 8259), a line of comma-separated values (RFC 4180) or an INSERT of SQL.
use Rattle.std.specs.Prelude.{◌≡◌, ℕ, suc, ◌^◌, ◌==◌, nat_lt, nat_le, if◌then◌else◌, Bool, false, List, [], ◌∷◌, ◌++◌, ◌⊎◌, codes, length, slice_get, Option, Some, None, ℤ, pos, negsuc, IsTrue, IsFalse, is_nan, from_bits}
use Rattle.std.specs.List.{flat_map}
use Rattle.std.specs.Fmt.{decimal, signed_decimal}
use Rattle.std.specs.Float.{Float, binary64, float_is_finite, is_sign_negative}
use Rattle.fast_float.specs.Parse.{parse_float}
use Rattle.byteorder.specs.Endian.{big_number}
use Rattle.ryu.specs.Plain.{IsPlainNumber}
use Rattle.hex.specs.Hex.{encode_lower}
use Rattle.sqval.specs.Datum.{Datum, null, integer, real, text, blob}
use Rattle.cli_row_text.specs.declared.form.Form.{Form}
use Rattle.sqdeep.specs.declared.text.Encoding.{Encoding}
use Rattle.sqtext.specs.Texts.{IsTextOf, has_nul_or_cr}
use Rattle.cli_row_text.specs.declared.form.Notation.{Notation}
use Rattle.cli_row_text.specs.declared.form.Notation.TheVariants.{Json, Csv, Sql}

-- how values are written in a notation, where texts are in this encoding
abbrev pub form_of : Notation → Encoding → Form
form_of notation encoding = record { notation = notation; encoding = encoding }

-- a byte of a text between quotes, of which each that stands in it is there twice
abbrev pub doubled : (mark : ℕ) → ℕ → List ℕ
doubled mark b = if b == mark then mark ∷ mark ∷ [] else b ∷ []

abbrev pub between_marks : (mark : ℕ) → List ℕ → List ℕ
between_marks mark bytes = mark ∷ (flat_map (doubled mark) bytes ++ mark ∷ [])

-- a byte of a string of JSON
abbrev pub escaped : ℕ → List ℕ
escaped b = if b == 34 then codes "\\\"" else (if b == 92 then codes "\\\\" else (if nat_lt b 32 then codes "\\u00" ++ encode_lower (b ∷ []) else b ∷ []))

abbrev pub json_string : List ℕ → List ℕ
json_string bytes = 34 ∷ (flat_map escaped bytes ++ 34 ∷ [])

-- bytes as hex, in an object of JSON under their type's name
abbrev pub tagged_hex : (tag : List ℕ) → List ℕ → List ℕ
tagged_hex tag bytes = codes "{\"" ++ (tag ++ (codes "\":\"" ++ (encode_lower bytes ++ codes "\"}")))

-- X'..'
abbrev pub hex_literal : List ℕ → List ℕ
hex_literal bytes = codes "X'" ++ (encode_lower bytes ++ codes "'")

-- JSON's readers take integers up to 2^53 as they are.
abbrev pub is_safe : ℤ → Bool
is_safe (pos n) = nat_le n (2 ^ 53)
is_safe (negsuc n) = nat_lt n (2 ^ 53)

abbrev pub tagged_integer : ℤ → List ℕ
tagged_integer n = codes "{\"integer\":\"" ++ (signed_decimal n ++ codes "\"}")

abbrev pub json_integer : ℤ → List ℕ
json_integer n = if is_safe n then signed_decimal n else tagged_integer n

abbrev pub integer_text : Notation → ℤ → List ℕ
integer_text Json n = json_integer n
integer_text Csv n = signed_decimal n
integer_text Sql n = signed_decimal n

-- what stands for NULL
abbrev pub null_text : Notation → List ℕ
null_text Json = codes "null"
null_text Csv = []
null_text Sql = codes "NULL"

-- the number of eight bytes, the highest first
abbrev pub float_of : List ℕ → Float
float_of bytes = from_bits binary64 (big_number 8 bytes)

-- A number that isn't finite: NULL where it is none, as SQLite reads it, and else a numeral above all.
abbrev pub wide_text : Notation → Float → List ℕ
wide_text notation x = if is_nan x then null_text notation else (if is_sign_negative x then codes "-9e999" else codes "9e999")

-- The text of a number: one that reads back as it, with a point or an exponent.
abbrev pub IsReal : Notation → Float → List ℕ → Type 0
IsReal notation x t =
    (IsTrue (float_is_finite x) → (parse_float binary64 t ≡ Some x) × IsPlainNumber t) × (IsFalse (float_is_finite x) → t ≡ wide_text notation x)

-- bytes as hex
abbrev pub blob_text : Notation → List ℕ → List ℕ
blob_text Json bytes = tagged_hex (codes "blob") bytes
blob_text Csv bytes = hex_literal bytes
blob_text Sql bytes = hex_literal bytes

-- A text in UTF-8 is written as it is. In SQL it must have no NUL, which ends a statement's text, and no CR, which sqlite3's
-- shell drops before an LF.
abbrev pub Stands : Notation → (utf8 : List ℕ) → Type 0
Stands Json utf8 = Unit {0}
Stands Csv utf8 = Unit {0}
Stands Sql utf8 = has_nul_or_cr utf8 ≡ false

-- A text of a database stands as its characters in UTF-8 where it is one in the database's encoding that can.
abbrev pub IsPlain : Form → (bytes utf8 : List ℕ) → Type 0
IsPlain form bytes utf8 = IsTextOf form.encoding bytes utf8 × Stands form.notation utf8

-- such a text
abbrev pub plain_text : Notation → List ℕ → List ℕ
plain_text Json bytes = json_string bytes
plain_text Csv bytes = between_marks 34 bytes
plain_text Sql bytes = between_marks 39 bytes

-- any other text: its bytes as they are stored, as hex
abbrev pub other_text : Notation → List ℕ → List ℕ
other_text Json bytes = tagged_hex (codes "text") bytes
other_text Csv bytes = codes "T" ++ hex_literal bytes
other_text Sql bytes = codes "CAST(" ++ (hex_literal bytes ++ codes " AS TEXT)")

-- The text of a text, of these bytes.
abbrev pub IsTextText : Form → (bytes : List ℕ) → List ℕ → Type 0
IsTextText form bytes t =
    ((utf8 : List ℕ) × IsPlain form bytes utf8 × (t ≡ plain_text form.notation utf8)) ⊎ (((utf8 : List ℕ) → ¬ IsPlain form bytes utf8) × (t ≡ other_text form.notation bytes))

-- The text of a value.
abbrev pub IsText : Form → Datum → List ℕ → Type 0
IsText form null t = t ≡ null_text form.notation
IsText form (integer n) t = t ≡ integer_text form.notation n
IsText form (real bytes) t = IsReal form.notation (float_of bytes) t
IsText form (text bytes) t = IsTextText form bytes t
IsText form (blob bytes) t = t ≡ blob_text form.notation bytes

-- what stands before value i, from 0
abbrev pub mark_before : (i : ℕ) → List ℕ
mark_before i = if i == 0 then [] else codes ","

-- the name of value i as a string of JSON: that of its column, or c1, c2 and so on where none is known
abbrev pub name_text : Option (List ℕ) → (i : ℕ) → List ℕ
name_text (Some name) i = json_string name
name_text None i = codes "\"c" ++ (decimal (suc i) ++ codes "\"")

-- its name in an object of JSON
abbrev pub label : Notation → List (List ℕ) → (i : ℕ) → List ℕ
label Json names i = name_text (slice_get names i) i ++ codes ":"
label Csv names i = []
label Sql names i = []

-- The texts of these values, of which the first one is value i.
abbrev pub AreTexts : Form → List (List ℕ) → (i : ℕ) → List Datum → List ℕ → Type 0
AreTexts form names i [] t = t ≡ []
AreTexts form names i (v ∷ vs) t =
    (own : List ℕ) × (more : List ℕ) × IsText form v own × AreTexts form names (suc i) vs more
    × (t ≡ mark_before i ++ (label form.notation names i ++ (own ++ more)))

-- what a line begins with; for an INSERT all that stands before its values
abbrev pub line_start : Notation → (insert : List ℕ) → List ℕ
line_start Json insert = codes "{"
line_start Csv insert = []
line_start Sql insert = insert

abbrev pub line_end : Notation → List ℕ
line_end Json = codes "}\n"
line_end Csv = codes "\n"
line_end Sql = codes ");\n"

-- the name of the rowid before the values
abbrev pub lead_label : Notation → List ℕ
lead_label Json = codes "\"rowid\":"
lead_label Csv = []
lead_label Sql = []

-- the rowid before so many values, where it is written
abbrev pub lead_text : Notation → (rowid : Option ℤ) → (count : ℕ) → List ℕ
lead_text notation None count = []
lead_text notation (Some id) count = lead_label notation ++ (integer_text notation id ++ mark_before count)

-- The line of a row, whose rowid stands before its values or is left out.
abbrev pub IsLine : Form → (insert : List ℕ) → List (List ℕ) → (rowid : Option ℤ) → List Datum → List ℕ → Type 0
IsLine form insert names rowid values t =
    (all : List ℕ) × AreTexts form names 0 values all × (t ≡ line_start form.notation insert ++ (lead_text form.notation rowid (length values) ++ (all ++ line_end form.notation)))
