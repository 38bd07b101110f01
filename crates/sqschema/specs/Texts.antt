-- Texts in the encodings of a database as UTF-8 (fileformat2, 1.3.13; the Unicode Standard, 3.9).
use Rattle.std.specs.Prelude.{ℕ, ◌/◌, Bool, true, false, List, length}
use Rattle.std.specs.Char.Utf16.{utf16_lossy_chars}
use Rattle.std.specs.Str.{encode_utf8_all}
use Rattle.sqpage.specs.Lists.{each_from}
use Rattle.sqdeep.specs.declared.text.Encoding.{Encoding}
use Rattle.sqdeep.specs.declared.text.Encoding.TheVariants.{Utf8, Utf16Le, Utf16Be}
use Rattle.sqdeep.specs.Texts.{unit}

-- the units of UTF-16 that bytes have, without a byte behind the last one
abbrev pub units_of : (big : Bool) → List ℕ → List ℕ
units_of big bytes = each_from 0 (length bytes / 2) (unit big bytes)

-- The text of these bytes in UTF-8, where U+FFFD stands for a unit of a pair that stands alone.
abbrev pub utf8_of : Encoding → List ℕ → List ℕ
utf8_of Utf8 bytes = bytes
utf8_of Utf16Le bytes = encode_utf8_all (utf16_lossy_chars (units_of false bytes))
utf8_of Utf16Be bytes = encode_utf8_all (utf16_lossy_chars (units_of true bytes))
