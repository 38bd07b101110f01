-- Keywords (lang_keywords; parse.y, `%fallback`, `nm`).
use Rattle.std.specs.Prelude.{ℕ, Bool, if◌then◌else◌, List}
use Rattle.std.specs.List.{list_any}
use Rattle.std.specs.Str.{str_eq_ignore_ascii_case}
use Rattle.schema_tokens.specs.declared.kinds.Kind.{Kind}
use Rattle.schema_tokens.specs.declared.kinds.Kind.TheVariants.{Word, Fallback, Joining, Reserved}
use Rattle.schema_tokens.specs.declared.keywords.TheConstants.{FALLBACK, JOINING, RESERVED}

-- the same bytes, the case of ASCII's letters aside
unfoldable pub is_same_word : (a b : List ℕ) → Bool
is_same_word a b = str_eq_ignore_ascii_case a b

-- what a word is: a keyword of one of three lists, or none
unfoldable pub word_kind : List ℕ → Kind
word_kind w =
    if list_any (λ k. is_same_word k.now w) FALLBACK then Fallback
    else (if list_any (λ k. is_same_word k.now w) JOINING then Joining
    else (if list_any (λ k. is_same_word k.now w) RESERVED then Reserved
    else Word))
