-- The expressions of DEFAULT clauses (parse.y, `ccons`; lang_createtable, 3.2).
use Rattle.std.specs.Prelude.{ℕ, ◌+◌, ◌-◌, ◌==◌, ◌||◌, ◌&&◌, Bool, true, false, not, if◌then◌else◌, List, [], length, take, drop, slice_get, codes}
use Rattle.std.specs.List.{prefix_len}
use Rattle.std.specs.Option.{option_map_or}
use Rattle.sqlite_ast.specs.declared.Expr.{Expr}
use Rattle.sqlite_ast.specs.declared.Expr.TheVariants as e
use Rattle.sqlite_ast.specs.declared.Unary.TheVariants as unary
use Rattle.schema_tokens.specs.Keywords.{is_same_word}
use Rattle.schema_tokens.specs.declared.kinds.Kind.{Kind}
use Rattle.schema_tokens.specs.declared.kinds.Kind.TheVariants.{Text, Blob, Integer, Float}
use Rattle.schema_tokens.specs.declared.kinds.Piece.{Piece}
use Rattle.schema_print.specs.Names.{name_of}
use Rattle.schema_print.specs.Statements.{bytes_of, is_word, is_name, is_open, is_open_kind}
use Rattle.schema_text.specs.Rules.{is_operand}
use Rattle.schema_text.specs.declared.clauses.Clause.{Clause}

-- an expression whose value isn't known
abbrev pub unknown : Expr
unknown = e.CallStar []

-- what ALTER TABLE ADD COLUMN refuses as a default if there are rows: it isn't the same at all times
abbrev pub changing : Expr
changing = e.Parameter 0

-- the hexadecimal digits of a blob
abbrev pub digits_of : List ℕ → List ℕ
digits_of bytes = drop 2 (take (length bytes - 1) bytes)

-- it gives the present time
unfoldable pub is_present : List ℕ → Bool
is_present word =
    is_same_word (codes "CURRENT_TIMESTAMP") word || is_same_word (codes "CURRENT_DATE") word
    || is_same_word (codes "CURRENT_TIME") word

-- A word is a constant, or the present time; any other is its own text where a name is taken as one.
unfoldable pub word_value : (bare : Bool) → List ℕ → Expr
word_value bare word =
    if is_same_word (codes "NULL") word then e.Null
    else (if is_present word then changing
    else (if is_same_word (codes "TRUE") word then e.Truth word true
    else (if is_same_word (codes "FALSE") word then e.Truth word false
    else (if bare then e.Text (name_of word) else unknown))))

-- a literal or a word
abbrev pub value_by : Kind → (bare : Bool) → List ℕ → Expr
value_by Integer bare bytes = e.Integer bytes
value_by Float bare bytes = e.Float bytes
value_by Text bare bytes = e.Text (name_of bytes)
value_by Blob bare bytes = e.Blob (digits_of bytes)
value_by _ bare bytes = word_value bare bytes

unfoldable pub value_at : (text : List ℕ) → (bare : Bool) → List Piece → (at : ℕ) → Expr
value_at text bare ts at = option_map_or (λ p. value_by p.kind bare (bytes_of text p)) (slice_get ts at) unknown

-- they begin with the call of a function
unfoldable pub is_call : (text : List ℕ) → List Piece → Bool
is_call text ts = is_name ts 0 && is_open ts 1 && not (is_operand text ts)

-- A value, with a sign or without. A plus changes nothing. Expressions that call a function are no constants to ALTER
-- TABLE ADD COLUMN.
unfoldable pub expression : (text : List ℕ) → (bare : Bool) → List Piece → Expr
expression text bare ts =
    if length ts == 1 then value_at text bare ts 0
    else (if length ts == 2 && is_word text ts 0 (codes "-") then e.Unary unary.Minus (value_at text false ts 1)
    else (if length ts == 2 && is_word text ts 0 (codes "+") then value_at text false ts 1
    else (if is_call text ts then changing else unknown)))

-- the tokens after the word DEFAULT
unfoldable pub default_tokens : List Piece → Clause → List Piece
default_tokens ts c = take (c.to - (c.from + 1)) (drop (c.from + 1) ts)

-- The expression of a DEFAULT clause, without the parentheses around it. Outside of parentheses a name is a text.
unfoldable pub default_of : (text : List ℕ) → List Piece → Clause → Expr
default_of text ts c =
    let rest = default_tokens ts c in
    let n = prefix_len (λ p. is_open_kind p.kind) rest in
    expression text (n == 0) (drop n (take (length rest - n) rest))
