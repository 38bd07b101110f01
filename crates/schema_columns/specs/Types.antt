-- What SQLite makes of the words of a column's type (datatype3, 3.1; build.c, `sqlite3AddColumn`).
use Rattle.std.specs.Prelude.{ℕ, ◌-◌, ◌==◌, ◌||◌, ◌&&◌, Bool, false, not, if◌then◌else◌, nat_le, List, [], ◌∷◌, length, take, drop, reverse, map, slice_index, codes}
use Rattle.std.specs.List.{prefix_len, list_any}
use Rattle.std.specs.Char.{to_ascii_uppercase}
use Rattle.schema_tokens.specs.Bytes.{is_blank}
use Rattle.schema_tokens.specs.Keywords.{is_same_word}
use Rattle.schema_print.specs.Names.{name_of}
use Rattle.schema_columns.specs.declared.types.Affinity.{Affinity}
use Rattle.schema_columns.specs.declared.types.Affinity.TheVariants.{Integer, Text, Blob, Real, Numeric}
use Rattle.schema_columns.specs.declared.types.TheConstants.{STANDARD}

-- a text begins with a word, ends with it, or has it somewhere, in any case
abbrev pub begins : (text word : List ℕ) → Bool
begins text word = is_same_word (take (length word) text) word

unfoldable pub ends : (text word : List ℕ) → Bool
ends text word = is_same_word (drop (length text - length word) text) word

abbrev pub has_word : (text word : List ℕ) → Bool
has_word [] word = false
has_word (b ∷ bs) word = begins (b ∷ bs) word || has_word bs word

-- the first rule of datatype3, 3.1 that applies to a type that isn't missing
unfoldable pub affinity_of : List ℕ → Affinity
affinity_of type =
    if has_word type (codes "int") then Integer
    else (if has_word type (codes "char") || has_word type (codes "clob") || has_word type (codes "text") then Text
    else (if has_word type (codes "blob") then Blob
    else (if has_word type (codes "real") || has_word type (codes "floa") || has_word type (codes "doub") then Real
    else Numeric)))

-- one of the types of STRICT tables
unfoldable pub is_standard : List ℕ → Bool
is_standard type = list_any (λ k. is_same_word k.now type) STANDARD

-- a text without the blanks at its end
unfoldable pub trimmed : List ℕ → List ℕ
trimmed s = take (length s - prefix_len is_blank (reverse s)) s

-- a text without so many bytes at its end, trimmed
unfoldable pub cut : (count : ℕ) → List ℕ → List ℕ
cut count s = trimmed (take (length s - count) s)

-- SQLite reads GENERATED ALWAYS as the last words of a type, and cuts them off if the type has 16 bytes or more.
unfoldable pub without_generated : List ℕ → List ℕ
without_generated s =
    let rest = cut 6 s in
    if not (nat_le 16 (length s) && ends s (codes "always")) then s
    else (if nat_le 9 (length rest) && ends rest (codes "generated") then cut 9 rest else rest)

unfoldable pub is_quote : ℕ → Bool
is_quote b = b == 39 || b == 34 || b == 96 || b == 91

-- a text without its first byte and its last
unfoldable pub inner : List ℕ → List ℕ
inner s = drop 1 (take (length s - 1) s)

-- A type of three bytes or more that begins with a quote, and has no other before its last byte, loses both (`sqlite3DequoteToken`).
unfoldable pub without_quotes : List ℕ → List ℕ
without_quotes s =
    if nat_le 3 (length s) && is_quote (slice_index s 0) && not (list_any is_quote (inner s)) then inner s else s

-- the type as PRAGMA table_info prints it
unfoldable pub type_name : List ℕ → List ℕ
type_name written =
    let words = without_quotes (without_generated written) in
    if is_standard words then map to_ascii_uppercase words else name_of words

-- A column whose type is missing has the affinity BLOB.
unfoldable pub type_affinity : List ℕ → Affinity
type_affinity written =
    if nat_le (length (without_generated written)) 0 then Blob else affinity_of (type_name written)

-- the affinity of a type in a table: in a STRICT one ANY keeps each value (stricttables)
unfoldable pub affinity_in : (strict : Bool) → (name : List ℕ) → Affinity → Affinity
affinity_in strict name affinity = if strict && is_same_word (codes "ANY") name then Blob else affinity
