-- What a CREATE statement begins with (parse.y; lang_createtable, lang_createindex, lang_createview,
-- lang_createtrigger, lang_createvtab). `ts` are the tokens of a text, without its spaces.
use Rattle.std.specs.Prelude.{ℕ, ◌+◌, ◌-◌, ◌||◌, ◌&&◌, Bool, true, false, not, if◌then◌else◌, List, take, drop, slice_get, codes, Option, Some, None}
use Rattle.std.specs.List.{position_or_len}
use Rattle.std.specs.Option.{option_map, option_map_or}
use Rattle.schema_tokens.specs.Keywords.{is_same_word}
use Rattle.schema_tokens.specs.declared.kinds.Kind.{Kind}
use Rattle.schema_tokens.specs.declared.kinds.Kind.TheVariants.{Word, Fallback, Joining, Quoted, Text, Open, Dot}
use Rattle.schema_tokens.specs.declared.kinds.Piece.{Piece}
use Rattle.schema_print.specs.declared.heads.Object.{Object}
use Rattle.schema_print.specs.declared.heads.Object.TheVariants.{Table, Virtual, Index, View, Trigger}
use Rattle.schema_print.specs.declared.heads.Head.{Head}

-- the bytes of a token
abbrev pub bytes_of : (text : List ℕ) → Piece → List ℕ
bytes_of text p = take (p.to - p.from) (drop p.from text)

-- whether a token is this word, in any case
unfoldable pub is_word : (text : List ℕ) → List Piece → (at : ℕ) → (word : List ℕ) → Bool
is_word text ts at word = option_map_or (λ p. is_same_word word (bytes_of text p)) (slice_get ts at) false

-- what may be a name (`nm`)
abbrev pub is_name_kind : Kind → Bool
is_name_kind Word = true
is_name_kind Fallback = true
is_name_kind Joining = true
is_name_kind Quoted = true
is_name_kind Text = true
is_name_kind _ = false

abbrev pub is_open_kind : Kind → Bool
is_open_kind Open = true
is_open_kind _ = false

abbrev pub is_dot_kind : Kind → Bool
is_dot_kind Dot = true
is_dot_kind _ = false

unfoldable pub is_name : List Piece → (at : ℕ) → Bool
is_name ts at = option_map_or (λ p. is_name_kind p.kind) (slice_get ts at) false

unfoldable pub is_open : List Piece → (at : ℕ) → Bool
is_open ts at = option_map_or (λ p. is_open_kind p.kind) (slice_get ts at) false

unfoldable pub is_dot : List Piece → (at : ℕ) → Bool
is_dot ts at = option_map_or (λ p. is_dot_kind p.kind) (slice_get ts at) false

unfoldable pub is_temporary : (text : List ℕ) → List Piece → Bool
is_temporary text ts = is_word text ts 1 (codes "TEMP") || is_word text ts 1 (codes "TEMPORARY")

-- after CREATE and TEMP, UNIQUE or VIRTUAL
unfoldable pub object_at : (text : List ℕ) → List Piece → ℕ
object_at text ts =
    if is_temporary text ts || is_word text ts 1 (codes "UNIQUE") || is_word text ts 1 (codes "VIRTUAL") then 2 else 1

-- TABLE after TEMP or VIRTUAL or neither, INDEX after UNIQUE or not, VIEW and TRIGGER after TEMP or not
unfoldable pub object_of : (text : List ℕ) → List Piece → Option Object
object_of text ts =
    let unique = is_word text ts 1 (codes "UNIQUE") in
    let virtual = is_word text ts 1 (codes "VIRTUAL") in
    let at = object_at text ts in
    if is_word text ts at (codes "TABLE") && not unique then Some (if virtual then Virtual else Table)
    else (if is_word text ts at (codes "INDEX") && not (is_temporary text ts || virtual) then Some Index
    else (if is_word text ts at (codes "VIEW") && not (unique || virtual) then Some View
    else (if is_word text ts at (codes "TRIGGER") && not (unique || virtual) then Some Trigger
    else None)))

unfoldable pub is_guarded : (text : List ℕ) → List Piece → (at : ℕ) → Bool
is_guarded text ts at =
    is_word text ts at (codes "IF") && is_word text ts (at + 1) (codes "NOT")
    && is_word text ts (at + 2) (codes "EXISTS")

-- the name follows IF NOT EXISTS, and may have `schema.` before it
unfoldable pub head_of : (text : List ℕ) → List Piece → Option Head
head_of text ts =
    let at = 1 + object_at text ts in
    let guarded = is_guarded text ts at in
    let first = (if guarded then at + 3 else at) in
    let qualified = is_dot ts (first + 1) in
    let name = (if qualified then first + 2 else first) in
    if is_word text ts 0 (codes "CREATE") && is_name ts first && is_name ts name
    && not (is_word text ts first (codes "IF"))
    then option_map (λ o. record {
      object = o;
      temporary = is_temporary text ts;
      guarded = guarded;
      qualified = qualified;
      name = name;
    })
    (object_of text ts)
    else None

-- the first ON from a token on
unfoldable pub on_at : (text : List ℕ) → List Piece → (from : ℕ) → ℕ
on_at text ts from = from + position_or_len (λ p. is_same_word (codes "ON") (bytes_of text p)) (drop from ts)

-- The table that an object belongs to, itself if it is a table or a view; None if no such statement follows the name,
-- as in CREATE TABLE .. AS SELECT.
unfoldable pub table_at : (text : List ℕ) → List Piece → Object → (name : ℕ) → Option ℕ
table_at text ts Table name = if is_open ts (name + 1) then Some name else None
table_at text ts Virtual name =
    if is_word text ts (name + 1) (codes "USING") && is_name ts (name + 2) then Some name else None
table_at text ts View name =
    if is_open ts (name + 1) || is_word text ts (name + 1) (codes "AS") then Some name else None
table_at text ts Index name =
    if is_word text ts (name + 1) (codes "ON") && is_name ts (name + 2) && is_open ts (name + 3) then Some (name + 2)
    else None
table_at text ts Trigger name =
    let on = on_at text ts (name + 1) in
    if is_name ts (on + 1) then Some (on + 1) else None
