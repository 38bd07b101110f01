-- How many tokens a rule of CREATE TABLE takes (parse.y; lang_createtable). `ts` are the tokens of a statement from some
-- place on. A length of 0 says that the rule doesn't fit there.
use Rattle.std.specs.Prelude.{ℕ, ◌+◌, ◌==◌, ◌||◌, ◌&&◌, Bool, not, if◌then◌else◌, nat_lt, nat_le, List, length, drop, codes}
use Rattle.std.specs.List.{prefix_len}
use Rattle.schema_tokens.specs.declared.kinds.Piece.{Piece}
use Rattle.schema_print.specs.Statements.{is_word, is_name, is_open}
use Rattle.schema_print.specs.Printable.{closing_at}
use Rattle.schema_text.specs.Kinds.{is_identifier_kind, is_type_kind, is_number_kind, is_literal_kind, is_close_kind, is_comma_kind, has_kind}

-- 1 or 0
abbrev pub count_if : Bool → ℕ
count_if b = if b then 1 else 0

-- `(` and its `)`, with tokens between them
unfoldable pub group_length : List Piece → ℕ
group_length ts =
    let n = closing_at 0 ts in
    if is_open ts 0 && nat_lt 2 n && nat_le n (length ts) then n else 0

-- `signed`: a number with a sign or without
unfoldable pub signed_length : (text : List ℕ) → List Piece → ℕ
signed_length text ts =
    if has_kind is_number_kind ts 0 then 1
    else (if (is_word text ts 0 (codes "+") || is_word text ts 0 (codes "-")) && has_kind is_number_kind ts 1 then 2
    else 0)

-- `( signed )` or `( signed , signed )`
unfoldable pub size_length : (text : List ℕ) → List Piece → ℕ
size_length text ts =
    let n = signed_length text (drop 1 ts) in
    let m = signed_length text (drop (2 + n) ts) in
    if not (is_open ts 0) || n == 0 then 0
    else (if has_kind is_close_kind ts (1 + n) then 2 + n
    else (if has_kind is_comma_kind ts (1 + n) && not (m == 0) && has_kind is_close_kind ts (2 + n + m) then 3 + n + m
    else 0))

-- `typetoken`: names, and a size or none
unfoldable pub type_length : (text : List ℕ) → List Piece → ℕ
type_length text ts =
    let n = prefix_len (λ p. is_type_kind p.kind) ts in
    if n == 0 then 0 else n + size_length text (drop n ts)

-- `columnname`: a name, and a type or none
unfoldable pub column_length : (text : List ℕ) → List Piece → ℕ
column_length text ts = if is_name ts 0 then 1 + type_length text (drop 1 ts) else 0

-- `resolvetype`
unfoldable pub is_resolution : (text : List ℕ) → List Piece → (at : ℕ) → Bool
is_resolution text ts at =
    is_word text ts at (codes "ROLLBACK") || is_word text ts at (codes "ABORT") || is_word text ts at (codes "FAIL")
    || is_word text ts at (codes "IGNORE") || is_word text ts at (codes "REPLACE")

-- `onconf`
unfoldable pub conflict_length : (text : List ℕ) → List Piece → ℕ
conflict_length text ts =
    if is_word text ts 0 (codes "ON") && is_word text ts 1 (codes "CONFLICT") && is_resolution text ts 2 then 3 else 0

-- CONSTRAINT nm
unfoldable pub named_length : List Piece → ℕ
named_length ts = if is_name ts 1 then 2 else 0

-- PRIMARY KEY sortorder onconf autoinc
unfoldable pub primary_length : (text : List ℕ) → List Piece → ℕ
primary_length text ts =
    let order = count_if (is_word text ts 2 (codes "ASC") || is_word text ts 2 (codes "DESC")) in
    let conflict = conflict_length text (drop (2 + order) ts) in
    let counts = count_if (is_word text ts (2 + order + conflict) (codes "AUTOINCREMENT")) in
    if is_word text ts 1 (codes "KEY") then 2 + order + conflict + counts else 0

-- DEFERRABLE, and INITIALLY DEFERRED or IMMEDIATE, or not
unfoldable pub deferrable_length : (text : List ℕ) → List Piece → ℕ
deferrable_length text ts =
    if not (is_word text ts 0 (codes "DEFERRABLE")) then 0
    else (if is_word text ts 1 (codes "INITIALLY")
    && (is_word text ts 2 (codes "DEFERRED") || is_word text ts 2 (codes "IMMEDIATE")) then 3
    else 1)

-- the same, with NOT before it or without
unfoldable pub defer_length : (text : List ℕ) → List Piece → ℕ
defer_length text ts =
    let n = deferrable_length text (drop 1 ts) in
    if not (is_word text ts 0 (codes "NOT")) then deferrable_length text ts
    else (if n == 0 then 0 else 1 + n)

-- a value with no sign: a literal, NULL, CURRENT_DATE, CURRENT_TIME or CURRENT_TIMESTAMP
unfoldable pub is_term : (text : List ℕ) → List Piece → (at : ℕ) → Bool
is_term text ts at =
    has_kind is_literal_kind ts at || is_word text ts at (codes "NULL") || is_word text ts at (codes "CURRENT_DATE")
    || is_word text ts at (codes "CURRENT_TIME") || is_word text ts at (codes "CURRENT_TIMESTAMP")

-- DEFAULT, and a value, a value with a sign, an identifier, or an expression in parentheses
unfoldable pub default_length : (text : List ℕ) → List Piece → ℕ
default_length text ts =
    let n = group_length (drop 1 ts) in
    if not (n == 0) then 1 + n
    else (if is_term text ts 1 || has_kind is_identifier_kind ts 1 || is_word text ts 1 (codes "INDEXED") then 2
    else (if (is_word text ts 1 (codes "+") || is_word text ts 1 (codes "-")) && is_term text ts 2 then 3
    else 0))

-- COLLATE ids
unfoldable pub collate_length : List Piece → ℕ
collate_length ts = if has_kind is_type_kind ts 1 then 2 else 0

-- REFERENCES nm, and names in parentheses or none
unfoldable pub references_length : List Piece → ℕ
references_length ts = if is_name ts 1 then 2 + group_length (drop 2 ts) else 0

-- CHECK and an expression in parentheses
unfoldable pub check_length : List Piece → ℕ
check_length ts =
    let n = group_length (drop 1 ts) in
    if n == 0 then 0 else 1 + n

-- AS, an expression in parentheses, and VIRTUAL, STORED or neither
unfoldable pub as_length : (text : List ℕ) → List Piece → ℕ
as_length text ts =
    let n = group_length (drop 1 ts) in
    if not (is_word text ts 0 (codes "AS")) || n == 0 then 0
    else 1 + n + count_if (is_word text ts (1 + n) (codes "VIRTUAL") || is_word text ts (1 + n) (codes "STORED"))

-- the same after GENERATED ALWAYS
unfoldable pub generated_length : (text : List ℕ) → List Piece → ℕ
generated_length text ts =
    let n = as_length text (drop 2 ts) in
    if not (is_word text ts 1 (codes "ALWAYS")) || n == 0 then 0 else 2 + n

-- `refact`, from its first word on
unfoldable pub effect_length : (text : List ℕ) → List Piece → ℕ
effect_length text ts =
    if is_word text ts 0 (codes "CASCADE") || is_word text ts 0 (codes "RESTRICT") then 1
    else (if is_word text ts 0 (codes "SET") && (is_word text ts 1 (codes "NULL") || is_word text ts 1 (codes "DEFAULT"))
    || is_word text ts 0 (codes "NO") && is_word text ts 1 (codes "ACTION") then 2
    else 0)

-- `refarg`: MATCH nm; ON INSERT, DELETE or UPDATE, and what it does
unfoldable pub action_length : (text : List ℕ) → List Piece → ℕ
action_length text ts =
    let n = effect_length text (drop 2 ts) in
    if is_word text ts 0 (codes "MATCH") then (if is_name ts 1 then 2 else 0)
    else (if is_word text ts 0 (codes "ON") && not (n == 0)
    && (is_word text ts 1 (codes "INSERT") || is_word text ts 1 (codes "DELETE") || is_word text ts 1 (codes "UPDATE"))
    then 2 + n
    else 0)

-- `( .. )` onconf, after so many words
unfoldable pub listed_length : (words : ℕ) → (text : List ℕ) → List Piece → ℕ
listed_length words text ts =
    let n = group_length (drop words ts) in
    if n == 0 then 0 else words + n + conflict_length text (drop (words + n) ts)

-- FOREIGN KEY, names in parentheses, and REFERENCES
unfoldable pub foreign_length : (text : List ℕ) → List Piece → ℕ
foreign_length text ts =
    let n = group_length (drop 2 ts) in
    let m = references_length (drop (2 + n) ts) in
    if not (is_word text ts 1 (codes "KEY")) || n == 0 || m == 0 || not (is_word text ts (2 + n) (codes "REFERENCES"))
    then 0 else 2 + n + m

-- a word that isn't a column's name at the front of an expression
unfoldable pub is_operand : (text : List ℕ) → List Piece → Bool
is_operand text ts =
    is_word text ts 0 (codes "CAST") || is_word text ts 0 (codes "RAISE") || is_word text ts 0 (codes "CURRENT_DATE")
    || is_word text ts 0 (codes "CURRENT_TIME") || is_word text ts 0 (codes "CURRENT_TIMESTAMP")
