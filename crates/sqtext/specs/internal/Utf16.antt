-- Texts of UTF-16, by the order of the bytes of a unit (own).
use Rattle.std.specs.Prelude.{◌≡◌, ◌⊎◌, ℕ, Bool, true, List}
use Rattle.std.specs.List.{flat_map}
use Rattle.std.specs.Str.{encode_utf8_all, all_scalars}
use Rattle.sqtext.specs.Texts.{utf16_bytes}

-- The bytes are a text of UTF-16, and `text` has the same characters in UTF-8.
abbrev pub IsUtf16Of : (big : Bool) → (bytes text : List ℕ) → Type 0
IsUtf16Of big bytes text = (cs : List ℕ) × (all_scalars cs ≡ true) × (flat_map (utf16_bytes big) cs ≡ bytes) × (encode_utf8_all cs ≡ text)

-- They are none.
abbrev pub IsNoUtf16 : (big : Bool) → (bytes : List ℕ) → Type 0
IsNoUtf16 big bytes = (text : List ℕ) → ¬ IsUtf16Of big bytes text

-- what bytes of UTF-16 are read as
abbrev pub IsUtf16ReadAs : (big : Bool) → (bytes read : List ℕ) → Type 0
IsUtf16ReadAs big bytes read = IsUtf16Of big bytes read ⊎ (IsNoUtf16 big bytes × (read ≡ bytes))
