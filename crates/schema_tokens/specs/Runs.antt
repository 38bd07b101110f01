-- How far bytes of one kind reach (tokenize.c, `sqlite3GetToken`).
use Rattle.std.specs.Prelude.{ℕ, ◌+◌, ◌==◌, ◌||◌, ◌&&◌, Bool, cond, List, [], ◌∷◌, slice_index}
use Rattle.schema_tokens.specs.Bytes.{is_word_byte, is_digit}

-- how many bytes a quoted text has inside its quotes: none is the quote, except two in a row
abbrev pub quoted_bytes : (quote : ℕ) → List ℕ → ℕ
quoted_bytes q [] = 0
quoted_bytes q (x ∷ []) = cond (x == q) 0 1
quoted_bytes q (x ∷ y ∷ s) = cond (x == q) (cond (y == q) (2 + quoted_bytes q s) 0) (1 + quoted_bytes q (y ∷ s))

-- how many bytes a comment has after its `/*`: up to the first `*/`, and with it, or all
abbrev pub comment_bytes : List ℕ → ℕ
comment_bytes [] = 0
comment_bytes (x ∷ s) = cond (x == 42 && slice_index s 0 == 47) 2 (1 + comment_bytes s)

-- how many digits follow, also with a `_` before one of them
abbrev pub digits_on : (hexadecimal : Bool) → List ℕ → ℕ
digits_on h [] = 0
digits_on h (x ∷ s) = cond (is_digit h x || (x == 95 && is_digit h (slice_index s 0))) (1 + digits_on h s) 0

-- how many bytes of words and pairs of colons follow
abbrev pub name_bytes : List ℕ → ℕ
name_bytes [] = 0
name_bytes (x ∷ []) = cond (is_word_byte x) 1 0
name_bytes (x ∷ y ∷ s) =
    cond (is_word_byte x) (1 + name_bytes (y ∷ s)) (cond (x == 58 && y == 58) (2 + name_bytes s) 0)
