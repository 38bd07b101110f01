-- Which texts of a schema may be in a script that sqlite3 reads, and how (own). `ts` are a text's tokens.
use Rattle.std.specs.Prelude.{◌≡◌, ℕ, ◌+◌, ◌-◌, ◌==◌, ◌||◌, ◌&&◌, Bool, true, false, not, if◌then◌else◌, nat_lt, nat_le, List, [], ◌∷◌, length, take, drop, slice_index, slice_get, filter, bytes_eq, codes, ◌⊎◌, Option, Some, None}
use Rattle.std.specs.List.{prefix_len, list_any, list_all}
use Rattle.std.specs.Option.{option_map_or}
use Rattle.schema_tokens.specs.Bytes.{is_blank, is_word_byte}
use Rattle.schema_tokens.specs.Keywords.{is_same_word}
use Rattle.schema_print.specs.Names.{name_of}
use Rattle.schema_tokens.specs.Pieces.{is_token, IsReading}
use Rattle.schema_print.specs.Statements.{bytes_of, is_word, is_open, head_of, table_at}
use Rattle.schema_tokens.specs.declared.kinds.Kind.{Kind}
use Rattle.schema_tokens.specs.declared.kinds.Kind.TheVariants.{Blanks, ByteOrderMark, Open, Close, Comma, Semicolon, Variable}
use Rattle.schema_tokens.specs.declared.kinds.Piece.{Piece}
use Rattle.schema_print.specs.declared.heads.Object.{Object}
use Rattle.schema_print.specs.declared.heads.Object.TheVariants.{Table, Virtual, Index, View, Trigger}
use Rattle.schema_print.specs.declared.heads.Head.{Head}
use Rattle.schema_print.specs.declared.refusals.Row.{Row}
use Rattle.schema_print.specs.declared.refusals.Why.{Why}
use Rattle.schema_print.specs.declared.refusals.Why.TheVariants.{NotWhole, NotCreate, OtherInRow, NotPlain, ReservedName, SemicolonInside, NotComplete, HasVariable, UnknownModule, ReturnInQuotes, EndsInComment, EndsSafeMode, NotSpaced}
use Rattle.schema_print.specs.declared.refusals.Printed.{Printed}
use Rattle.schema_print.specs.declared.refusals.Printed.TheVariants.{AsItIs, Spaced, RowOfSchema, Comment}
use Rattle.schema_print.specs.declared.refusals.TheConstants.{MODULES, UNSAFE}

abbrev pub is_semicolon_kind : Kind → Bool
is_semicolon_kind Semicolon = true
is_semicolon_kind _ = false

abbrev pub is_variable_kind : Kind → Bool
is_variable_kind Variable = true
is_variable_kind _ = false

-- the tokens of a statement: all but a `;` that is the last
unfoldable pub statement : List Piece → List Piece
statement ts =
    if option_map_or (λ p. is_semicolon_kind p.kind) (slice_get ts (length ts - 1)) false then take (length ts - 1) ts
    else ts

-- how many tokens there are up to the first `;` that END directly follows, and with it
abbrev pub end_at : (text : List ℕ) → List Piece → ℕ
end_at text [] = 0
end_at text (p ∷ ts) = if is_semicolon_kind p.kind && is_word text ts 0 (codes "END") then 1 else 1 + end_at text ts

-- A trigger has a BEGIN before its first `;`, and its first END after a `;` is its last token.
unfoldable pub has_body : (text : List ℕ) → List Piece → Bool
has_body text ts =
    nat_lt (prefix_len (λ p. not (is_same_word (codes "BEGIN") (bytes_of text p))) ts)
    (prefix_len (λ p. not (is_semicolon_kind p.kind)) ts)
    && end_at text ts + 1 == length ts

-- a trigger with its body, or another object without `;`
abbrev pub is_one_statement : (text : List ℕ) → Object → List Piece → Bool
is_one_statement text Trigger ts = has_body text ts
is_one_statement text _ ts = not (list_any (λ p. is_semicolon_kind p.kind) ts)

-- how deep in parentheses the token after this one is
abbrev pub deeper : Kind → (depth : ℕ) → ℕ
deeper Open depth = depth + 1
deeper Close depth = depth - 1
deeper _ depth = depth

abbrev pub separates : Kind → (depth : ℕ) → ℕ
separates Comma depth = if depth == 1 then 1 else 0
separates _ depth = 0

-- how many commas are in one pair of parentheses and no other
abbrev pub commas : (depth : ℕ) → List Piece → ℕ
commas depth [] = 0
commas depth (p ∷ ts) = separates p.kind depth + commas (deeper p.kind depth) ts

-- How many tokens there are up to the `)` that closes the `(` at the front, and with it. If none does, more than there
-- are.
abbrev pub closing_at : (depth : ℕ) → List Piece → ℕ
closing_at depth [] = 1
closing_at depth (p ∷ ts) = if deeper p.kind depth == 0 then 1 else 1 + closing_at (deeper p.kind depth) ts

-- a word of a table's options, or a comma
unfoldable pub is_option : (text : List ℕ) → Piece → Bool
is_option text p =
    is_same_word (codes ",") (bytes_of text p) || is_same_word (codes "WITHOUT") (bytes_of text p)
    || is_same_word (codes "ROWID") (bytes_of text p) || is_same_word (codes "STRICT") (bytes_of text p)

-- What follows the name of a table: `(` .. `)` and options; of a virtual table, after USING and its module: nothing, or
-- `(` .. `)`; of an index, after ON and its table: `(` .. `)`, and nothing or WHERE.
unfoldable pub is_complete : (text : List ℕ) → List Piece → Object → (name : ℕ) → Bool
is_complete text ts Table name =
    let end = name + 1 + closing_at 0 (drop (name + 1) ts) in
    nat_le end (length ts) && list_all (λ p. is_option text p) (drop end ts)
is_complete text ts Virtual name =
    length ts == name + 3 || (is_open ts (name + 3) && name + 3 + closing_at 0 (drop (name + 3) ts) == length ts)
is_complete text ts Index name =
    let end = name + 3 + closing_at 0 (drop (name + 3) ts) in
    end == length ts || is_word text ts end (codes "WHERE")
is_complete text ts View name = true
is_complete text ts Trigger name = true

-- the name that a token is; none past the last
unfoldable pub name_at : (text : List ℕ) → List Piece → (at : ℕ) → List ℕ
name_at text ts at = option_map_or (λ p. name_of (bytes_of text p)) (slice_get ts at) []

-- one of the modules that are part of SQLite, with at most 900 arguments
unfoldable pub has_module : (text : List ℕ) → List Piece → (name : ℕ) → Bool
has_module text ts name =
    list_any (λ m. is_same_word m.now (name_at text ts (name + 2))) MODULES && nat_le (commas 0 ts) 899

-- some token has a CR
unfoldable pub has_return : (text : List ℕ) → List Piece → Bool
has_return text ts = list_any (λ p. list_any (λ b. b == 13) (bytes_of text p)) ts

-- the name of a function that `-safe` refuses, before `(`
abbrev pub is_unsafe_call : (token : List ℕ) (rest : List Piece) → Bool
is_unsafe_call token rest = is_open rest 0 && list_any (λ w. is_same_word w.now (name_of token)) UNSAFE

abbrev pub ends_safe_mode : (text : List ℕ) → List Piece → Bool
ends_safe_mode text [] = false
ends_safe_mode text (p ∷ ts) = is_unsafe_call (bytes_of text p) ts || ends_safe_mode text ts

-- the type that sqlite_schema's row has for an object of this kind
abbrev pub row_word : Object → List ℕ
row_word Table = codes "table"
row_word Virtual = codes "table"
row_word Index = codes "index"
row_word View = codes "view"
row_word Trigger = codes "trigger"

-- kind, name and, where it is known, table are those of the row, in any case
unfoldable pub is_of_row : (text : List ℕ) → List Piece → Row → Head → (table : ℕ) → Bool
is_of_row text ts row h table =
    is_same_word (row_word h.object) row.kind.now && is_same_word row.name.now (name_at text ts h.name)
    && option_map_or (λ t. is_same_word t.now (name_at text ts table)) row.table true

abbrev pub runs_at_insert : Object → Bool
runs_at_insert Table = true
runs_at_insert Index = true
runs_at_insert _ = false

abbrev pub is_virtual : Object → Bool
is_virtual Virtual = true
is_virtual _ = false

-- where the last token ends
unfoldable pub last_byte : List Piece → ℕ
last_byte ts = option_map_or (λ p. p.to) (slice_get ts (length ts - 1)) 0

-- its last two bytes are `/*`
abbrev pub ends_in_comment : (text : List ℕ) → (last : ℕ) → Bool
ends_in_comment text last = slice_index text (last - 2) == 47 && slice_index text (last - 1) == 42

-- why the bytes of a text are refused, unless it creates a virtual table
unfoldable pub refused_bytes : (text : List ℕ) → List Piece → Object → Option Why
refused_bytes text ts object =
    if has_return text ts then Some ReturnInQuotes
    else (if ends_in_comment text (last_byte ts) then Some EndsInComment
    else (if runs_at_insert object && ends_safe_mode text ts then Some EndsSafeMode
    else None))

unfoldable pub refused_object : (text : List ℕ) → List Piece → Head → Option Why
refused_object text ts h =
    if is_virtual h.object then (if has_module text ts h.name then None else Some UnknownModule)
    else refused_bytes text ts h.object

-- what a statement is refused for, whose head and whose table's name these are
unfoldable pub refused_statement : (text : List ℕ) → List Piece → Row → Head → (table : ℕ) → Option Why
refused_statement text ts row h table =
    if not (is_of_row text ts row h table) then Some OtherInRow
    else (if h.temporary || h.guarded || h.qualified then Some NotPlain
    else (if is_same_word (codes "sqlite_") (take 7 (name_at text ts h.name)) then Some ReservedName
    else (if not (is_one_statement text h.object ts) then Some SemicolonInside
    else (if not (is_complete text ts h.object h.name) then Some NotComplete
    else (if list_any (λ p. is_variable_kind p.kind) ts then Some HasVariable
    else refused_object text ts h)))))

abbrev pub refused_table : (text : List ℕ) → List Piece → Row → Head → Option ℕ → Option Why
refused_table text ts row h None = Some NotCreate
refused_table text ts row h (Some table) = refused_statement text ts row h table

abbrev pub refused_head : (text : List ℕ) → List Piece → Row → Option Head → Option Why
refused_head text ts row None = Some NotCreate
refused_head text ts row (Some h) = refused_table text ts row h (table_at text ts h.object h.name)

-- What a text is refused for whose tokens these are, and which is read as far as `end`: it has to begin with its first
-- token, and to be read to its end. The first reason that holds.
unfoldable pub refused : (text : List ℕ) → List Piece → (end : ℕ) → Row → Option Why
refused text ts end row =
    if option_map_or (λ p. p.from == 0) (slice_get ts 0) false && end == length text
    then refused_head text (statement ts) row (head_of text (statement ts))
    else Some NotWhole

-- a blank for the shell's lines, LF aside
unfoldable pub is_line_blank : ℕ → Bool
is_line_blank b = (is_blank b && not (b == 10)) || nat_le 128 b

-- the shell reads `/` alone on a line, and `go`, as `;`; not `/*`, nor a longer word
unfoldable pub is_terminator : List ℕ → Bool
is_terminator s =
    let rest = drop (prefix_len is_line_blank s) s in
    (slice_index rest 0 == 47 && not (slice_index rest 1 == 42))
    || ((slice_index rest 0 == 103 || slice_index rest 0 == 71)
    && (slice_index rest 1 == 111 || slice_index rest 1 == 79)
    && not (is_word_byte (slice_index rest 2)))

-- whether one follows some LF
abbrev pub has_terminator : List ℕ → Bool
has_terminator [] = false
has_terminator (b ∷ s) = (b == 10 && is_terminator s) || has_terminator s

abbrev pub is_mark_kind : Kind → Bool
is_mark_kind ByteOrderMark = true
is_mark_kind _ = false

abbrev pub is_blanks_kind : Kind → Bool
is_blanks_kind Blanks = true
is_blanks_kind _ = false

-- one follows an LF of this space
unfoldable pub is_before_terminator : (text : List ℕ) → Piece → Bool
is_before_terminator text p =
    has_terminator (bytes_of text p)
    || (is_blanks_kind p.kind && list_any (λ b. b == 10) (bytes_of text p) && is_terminator (drop p.to text))

-- a space with VT or CR, a byte order mark, or one with an LF that a terminator follows
unfoldable pub is_odd_space : (text : List ℕ) → Piece → Bool
is_odd_space text p =
    not (is_token p)
    && (is_mark_kind p.kind || list_any (λ b. b == 11 || b == 13) (bytes_of text p) || is_before_terminator text p)

-- Up to its last byte a statement has no odd space.
unfoldable pub is_plain : (text : List ℕ) → List Piece → (last : ℕ) → Bool
is_plain text ps last = not (list_any (λ p. nat_le p.to last && is_odd_space (take last text) p) ps)

abbrev pub makes_virtual_table : Option Head → Bool
makes_virtual_table None = false
makes_virtual_table (Some h) = is_virtual h.object

-- Bytes with the tokens of a statement, of the same kinds, at the same places, with the same bytes. They are plain.
pub record IsSpacing (text : List ℕ) (ts : List Piece) (spaced : List ℕ) : Type 0 where
  pub pieces : List Piece
  pub is_reading : IsReading spaced pieces (length spaced)
  pub same_tokens : filter is_token pieces ≡ ts
  pub same_bytes : list_all (λ p. bytes_eq (bytes_of spaced p) (bytes_of text p)) ts ≡ true
  pub plain : is_plain spaced pieces (length spaced) ≡ true

-- A text isn't refused. It creates a virtual table or not, and it is plain or not.
pub record IsAccepted (text : List ℕ) (ps : List Piece) (end : ℕ) (row : Row) (virtual plain : Bool) : Type 0 where
  pub not_refused : refused text (filter is_token ps) end row ≡ None
  pub is_virtual_table : makes_virtual_table (head_of text (statement (filter is_token ps))) ≡ virtual
  pub is_plain_text : is_plain text ps (last_byte (statement (filter is_token ps))) ≡ plain

-- How a text is printed that is read as these pieces up to `end`: as a comment, if it is refused, or if it isn't plain
-- and no other blanks were found for it; as a row, if it makes a virtual table; as it is up to where its last token
-- ends, if it is plain; or spaced.
abbrev pub IsPrintedOf : (text : List ℕ) (ps : List Piece) (end : ℕ) → Row → Printed → Type 0
IsPrintedOf text ps end row (Comment why) =
    (refused text (filter is_token ps) end row ≡ Some why)
    ⊎ ((why ≡ NotSpaced) × IsAccepted text ps end row false false)
IsPrintedOf text ps end row RowOfSchema = (plain : Bool) × IsAccepted text ps end row true plain
IsPrintedOf text ps end row (AsItIs last) =
    IsAccepted text ps end row false true × (last ≡ last_byte (statement (filter is_token ps)))
IsPrintedOf text ps end row (Spaced v) =
    IsAccepted text ps end row false false × IsSpacing text (statement (filter is_token ps)) v.items

abbrev pub IsPrinted : (text : List ℕ) → Row → Printed → Type 0
IsPrinted text row p = (ps : List Piece) (end : ℕ) → IsReading text ps end → IsPrintedOf text ps end row p
