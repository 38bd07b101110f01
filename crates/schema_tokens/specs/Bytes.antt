-- Which bytes SQL's tokens are made of (tokenize.c, `CC_` and `IdChar`; lang_keywords).
use Rattle.std.specs.Prelude.{ℕ, ◌==◌, ◌||◌, ◌&&◌, Bool, true, false, nat_le}
use Rattle.std.specs.Char.{is_ascii_digit, is_ascii_hexdigit, is_ascii_alphabetic, is_ascii_whitespace}

-- a blank: space, tab, LF, VT, FF or CR
unfoldable pub is_blank : ℕ → Bool
is_blank b = is_ascii_whitespace b || b == 11

-- what a word begins with: a letter, `_`, or a byte that isn't ASCII
unfoldable pub begins_word : ℕ → Bool
begins_word b = is_ascii_alphabetic b || b == 95 || nat_le 128 b

-- what a word goes on with: also a digit or `$`
unfoldable pub is_word_byte : ℕ → Bool
is_word_byte b = begins_word b || is_ascii_digit b || b == 36

-- a digit of a decimal or of a hexadecimal number
unfoldable pub is_digit : (hexadecimal : Bool) → ℕ → Bool
is_digit true b = is_ascii_hexdigit b
is_digit false b = is_ascii_digit b

-- an operator of one byte: + * ~ % & = < > | - /
unfoldable pub is_operator : ℕ → Bool
is_operator b =
    b == 43 || b == 42 || b == 126 || b == 37 || b == 38 || b == 61 || b == 60 || b == 62 || b == 124 || b == 45
    || b == 47

-- one of two bytes: == <= >= != <> << >> || ->
unfoldable pub is_operator_pair : ℕ → ℕ → Bool
is_operator_pair a b =
    (b == 61 && (a == 61 || a == 60 || a == 62 || a == 33)) || (a == 60 && (b == 62 || b == 60)) || (a == 62 && b == 62)
    || (a == 124 && b == 124) || (a == 45 && b == 62)
