-- The affinities of columns (datatype3, 3.1, and stricttables).
use Rattle.std.specs.Prelude.{ℕ, ◌||◌, ◌&&◌, nat_eq, if◌then◌else◌, Bool, false, List, [], ◌∷◌, length, take, codes}
use Rattle.std.specs.Str.{str_eq_ignore_ascii_case}
use Rattle.sqdefaults.specs.declared.affinity.Affinity.{Affinity}
use Rattle.sqdefaults.specs.declared.affinity.Affinity.TheVariants.{Integer, Text, Blob, Real, Numeric}

-- A text has a word at its begin, or somewhere, where ASCII's small letters are its capitals.
abbrev pub begins : (text word : List ℕ) → Bool
begins text word = str_eq_ignore_ascii_case (take (length word) text) word

abbrev pub has_word : (text word : List ℕ) → Bool
has_word [] word = false
has_word (b ∷ bs) word = begins (b ∷ bs) word || has_word bs word

-- The affinity of a column whose type is written so: the first of the rules of datatype3, 3.1 that applies.
abbrev pub affinity_of : List ℕ → Affinity
affinity_of type =
    if has_word type (codes "int") then Integer
    else (if has_word type (codes "char") || has_word type (codes "clob") || has_word type (codes "text") then Text
    else (if has_word type (codes "blob") || nat_eq (length type) 0 then Blob
    else (if has_word type (codes "real") || has_word type (codes "floa") || has_word type (codes "doub") then Real else Numeric)))

-- The same in a table that is STRICT or isn't: ANY keeps each value in one that is (stricttables, 2).
abbrev pub affinity_in : (is_strict : Bool) → List ℕ → Affinity
affinity_in is_strict type = if is_strict && str_eq_ignore_ascii_case type (codes "any") then Blob else affinity_of type
