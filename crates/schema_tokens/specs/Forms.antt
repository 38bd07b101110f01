-- The forms of SQL's tokens: what the bytes from a place on begin with, and how long that is (tokenize.c,
-- `sqlite3GetToken`; lang_keywords; lang_expr, 'Literal values'). Each length is the greatest that the form can have.
use Rattle.std.specs.Prelude.{ℕ, ◌+◌, ◌%◌, ◌==◌, ◌||◌, ◌&&◌, Bool, true, false, not, if◌then◌else◌, nat_lt, List, length, take, drop, slice_index, Option, Some, None, is_some}
use Rattle.std.specs.List.{prefix_len, list_any}
use Rattle.std.specs.Char.{is_ascii_digit, is_ascii_hexdigit, is_ascii_whitespace}
use Rattle.schema_tokens.specs.Bytes.{is_blank, begins_word, is_word_byte, is_operator, is_operator_pair}
use Rattle.schema_tokens.specs.Runs.{quoted_bytes, comment_bytes, digits_on, name_bytes}
use Rattle.schema_tokens.specs.Keywords.{word_kind}
use Rattle.schema_tokens.specs.declared.kinds.Kind.{Kind}
use Rattle.schema_tokens.specs.declared.kinds.Kind.TheVariants.{Blanks, ByteOrderMark, LineComment, BlockComment, Quoted, Text, Blob, Integer, Float, Variable, Open, Close, Comma, Semicolon, Dot, Operator}
use Rattle.schema_tokens.specs.declared.kinds.Form.{Form}

-- a form of this length; none of length 0
abbrev pub form_of : Kind → (length : ℕ) → Option Form
form_of kind n = if n == 0 then None else Some (record { kind = kind; length = n })

-- the bytes of U+FEFF in UTF-8
unfoldable pub begins_byte_order_mark : List ℕ → Bool
begins_byte_order_mark s = slice_index s 0 == 239 && slice_index s 1 == 187 && slice_index s 2 == 191

unfoldable pub begins_line_comment : List ℕ → Bool
begins_line_comment s = slice_index s 0 == 45 && slice_index s 1 == 45

-- `/*`; as the last bytes of a text these are two operators
unfoldable pub begins_block_comment : List ℕ → Bool
begins_block_comment s = slice_index s 0 == 47 && slice_index s 1 == 42 && nat_lt 2 (length s)

-- blanks that don't begin with VT; a byte order mark; `--` up to the next LF; `/*` up to the next `*/`, and with it.
-- Both comments may also end with the text.
unfoldable pub space_form : List ℕ → Option Form
space_form s =
    if is_ascii_whitespace (slice_index s 0) then form_of Blanks (prefix_len is_blank s)
    else (if begins_byte_order_mark s then form_of ByteOrderMark 3
    else (if begins_line_comment s then form_of LineComment (prefix_len (λ b. not (b == 10)) s)
    else (if begins_block_comment s then form_of BlockComment (2 + comment_bytes (drop 2 s))
    else None)))

-- x'..' with an even number of hexadecimal digits
unfoldable pub blob_length : List ℕ → ℕ
blob_length s =
    let n = prefix_len is_ascii_hexdigit (drop 2 s) in
    if slice_index s (2 + n) == 39 && n % 2 == 0 then 3 + n else 0

-- a blob, or a word
unfoldable pub word_form : List ℕ → Option Form
word_form s =
    let n = prefix_len is_word_byte s in
    if (slice_index s 0 == 120 || slice_index s 0 == 88) && slice_index s 1 == 39 then form_of Blob (blob_length s)
    else form_of (word_kind (take n s)) n

-- up to the closing quote; inside, the quote is doubled
unfoldable pub quoted_length : (quote : ℕ) → List ℕ → ℕ
quoted_length quote s =
    let n = quoted_bytes quote (drop 1 s) in
    if nat_lt (1 + n) (length s) then 2 + n else 0

-- up to the first `]`
unfoldable pub bracketed_length : List ℕ → ℕ
bracketed_length s =
    let n = prefix_len (λ b. not (b == 93)) s in
    if slice_index s n == 93 then 1 + n else 0

-- digits, if the first byte is one
unfoldable pub digits : List ℕ → ℕ
digits s = if is_ascii_digit (slice_index s 0) then digits_on false s else 0

-- `.` and digits, or none
unfoldable pub fraction_length : List ℕ → ℕ
fraction_length s = if slice_index s 0 == 46 then 1 + digits (drop 1 s) else 0

-- `e`, a sign or none, and digits
unfoldable pub exponent_length : List ℕ → ℕ
exponent_length s =
    let sign = (if slice_index s 1 == 43 || slice_index s 1 == 45 then 1 else 0) in
    let n = digits (drop (1 + sign) s) in
    if (slice_index s 0 == 101 || slice_index s 0 == 69) && not (n == 0) then 1 + sign + n else 0

-- `0x` and hexadecimal digits
unfoldable pub hexadecimal_length : List ℕ → ℕ
hexadecimal_length s =
    if slice_index s 0 == 48 && (slice_index s 1 == 120 || slice_index s 1 == 88) && is_ascii_hexdigit (slice_index s 2)
    then 2 + digits_on true (drop 2 s) else 0

-- digits with a fraction and an exponent, or without; no byte of a word follows
unfoldable pub decimal_form : List ℕ → Option Form
decimal_form s =
    let whole = digits s in
    let fraction = fraction_length (drop whole s) in
    let exponent = exponent_length (drop (whole + fraction) s) in
    if is_word_byte (slice_index s (whole + fraction + exponent)) then None
    else form_of (if fraction + exponent == 0 then Integer else Float) (whole + fraction + exponent)

unfoldable pub number_form : List ℕ → Option Form
number_form s = if hexadecimal_length s == 0 then decimal_form s else form_of Integer (hexadecimal_length s)

-- after a name: nothing; or `(` and what isn't blank, up to the first `)`, and with it. None, if that `)` is missing.
unfoldable pub suffix_length : List ℕ → Option ℕ
suffix_length s =
    let n = prefix_len (λ b. not (is_blank b || b == 41)) (drop 1 s) in
    if not (slice_index s 0 == 40) then Some 0
    else (if slice_index s (1 + n) == 41 then Some (2 + n) else None)

-- how long a variable is whose name has n bytes
abbrev pub named_length : (n : ℕ) → (suffix : Option ℕ) → ℕ
named_length n None = 0
named_length n (Some m) = 1 + n + m

-- `?` and digits; one of $ @ : # and a name, which has a byte of a word, with its suffix
unfoldable pub variable_length : List ℕ → ℕ
variable_length s =
    let n = name_bytes (drop 1 s) in
    if slice_index s 0 == 63 then 1 + prefix_len is_ascii_digit (drop 1 s)
    else (if list_any is_word_byte (take n (drop 1 s)) then named_length n (suffix_length (drop (1 + n) s)) else 0)

-- ->>, an operator of two bytes, or one of one
unfoldable pub operator_length : List ℕ → ℕ
operator_length s =
    if slice_index s 0 == 45 && slice_index s 1 == 62 && slice_index s 2 == 62 then 3
    else (if is_operator_pair (slice_index s 0) (slice_index s 1) then 2
    else (if is_operator (slice_index s 0) then 1 else 0))

-- ( ) , ; . or an operator
unfoldable pub mark_form : List ℕ → Option Form
mark_form s =
    if slice_index s 0 == 40 then form_of Open 1
    else (if slice_index s 0 == 41 then form_of Close 1
    else (if slice_index s 0 == 44 then form_of Comma 1
    else (if slice_index s 0 == 59 then form_of Semicolon 1
    else (if slice_index s 0 == 46 then form_of Dot 1
    else form_of Operator (operator_length s)))))

-- whether quotes, a number or a variable begin here
unfoldable pub begins_number : List ℕ → Bool
begins_number s = is_ascii_digit (slice_index s 0) || (slice_index s 0 == 46 && is_ascii_digit (slice_index s 1))

unfoldable pub begins_variable : List ℕ → Bool
begins_variable s =
    slice_index s 0 == 63 || slice_index s 0 == 36 || slice_index s 0 == 64 || slice_index s 0 == 58
    || slice_index s 0 == 35

-- '..' is a text, ".." `..` and [..] are names
unfoldable pub literal_form : List ℕ → Option Form
literal_form s =
    if begins_number s then number_form s
    else (if begins_variable s then form_of Variable (variable_length s)
    else (if slice_index s 0 == 39 then form_of Text (quoted_length 39 s)
    else (if slice_index s 0 == 34 || slice_index s 0 == 96 then form_of Quoted (quoted_length (slice_index s 0) s)
    else (if slice_index s 0 == 91 then form_of Quoted (bracketed_length s)
    else mark_form s))))

-- the space or the token that these bytes begin with; None if they begin with neither
unfoldable pub form : List ℕ → Option Form
form s =
    if is_some (space_form s) then space_form s
    else (if begins_word (slice_index s 0) then word_form s else literal_form s)
