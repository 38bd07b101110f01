-- Texts in the encodings of a database, and in UTF-8 (fileformat2, 1.3.13; the Unicode Standard, 3.9).
use Rattle.std.specs.Prelude.{◌≡◌, ◌≢◌, ◌⊎◌, ℕ, ◌/◌, ◌%◌, ◌==◌, ◌||◌, Bool, true, false, List, [], ◌∷◌, ◌++◌}
use Rattle.std.specs.List.{flat_map, list_any}
use Rattle.std.specs.Char.{IsScalar}
use Rattle.std.specs.Char.Escape.{encode_utf16}
use Rattle.std.specs.Str.{IsUtf8, encode_utf8_all, all_scalars}
use Rattle.sqdeep.specs.declared.text.Encoding.{Encoding}
use Rattle.sqdeep.specs.declared.text.Encoding.TheVariants.{Utf8, Utf16Le, Utf16Be}

-- the two bytes of a unit of UTF-16, the higher one first or last
abbrev pub unit_bytes : (big : Bool) → ℕ → List ℕ
unit_bytes true u = u / 256 ∷ u % 256 ∷ []
unit_bytes false u = u % 256 ∷ u / 256 ∷ []

-- the bytes of a character in UTF-16: those of its unit, or of its two
abbrev pub utf16_bytes : (big : Bool) → ℕ → List ℕ
utf16_bytes big c = flat_map (unit_bytes big) (encode_utf16 c)

-- the bytes of characters in an encoding
abbrev pub encoded : Encoding → List ℕ → List ℕ
encoded Utf8 cs = encode_utf8_all cs
encoded Utf16Le cs = flat_map (utf16_bytes false) cs
encoded Utf16Be cs = flat_map (utf16_bytes true) cs

-- The bytes are a text in this encoding, and `text` has the same characters in UTF-8.
abbrev pub IsTextOf : Encoding → (bytes text : List ℕ) → Type 0
IsTextOf encoding bytes text = (cs : List ℕ) × (all_scalars cs ≡ true) × (encoded encoding cs ≡ bytes) × (encode_utf8_all cs ≡ text)

-- They are none.
abbrev pub IsNoText : Encoding → (bytes : List ℕ) → Type 0
IsNoText encoding bytes = (text : List ℕ) → ¬ IsTextOf encoding bytes text

-- What bytes are read as: the text in UTF-8 that they are, or where they are none the bytes as they stand.
abbrev pub IsReadAs : Encoding → (bytes read : List ℕ) → Type 0
IsReadAs encoding bytes read = IsTextOf encoding bytes read ⊎ (IsNoText encoding bytes × (read ≡ bytes))

-- What a text in UTF-8 is stored as: its characters in the encoding, or bytes that are no UTF-8 as they stand.
abbrev pub IsStoredAs : Encoding → (text bytes : List ℕ) → Type 0
IsStoredAs encoding text bytes = IsTextOf encoding bytes text ⊎ ((¬ IsUtf8 text) × (bytes ≡ text))

-- no character of UTF-16 begins these bytes
abbrev pub BeginsWithNoChar : (big : Bool) → List ℕ → Type 0
BeginsWithNoChar big bytes = (c : ℕ) (rest : List ℕ) → IsScalar c → bytes ≢ utf16_bytes big c ++ rest

-- some byte of a text in UTF-8 is zero or 13, and so it has the character NUL or CR
abbrev pub has_nul_or_cr : List ℕ → Bool
has_nul_or_cr = list_any (λ b. b == 0 || b == 13)
