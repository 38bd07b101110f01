-- Which tokens a rule takes by their kind (parse.y). `ts` are tokens from some place of a statement on.
use Rattle.std.specs.Prelude.{ℕ, Bool, true, false, List, slice_get}
use Rattle.std.specs.Option.{option_map_or}
use Rattle.schema_tokens.specs.declared.kinds.Kind.{Kind}
use Rattle.schema_tokens.specs.declared.kinds.Kind.TheVariants.{Word, Fallback, Quoted, Text, Blob, Integer, Float, Close, Comma, Semicolon}
use Rattle.schema_tokens.specs.declared.kinds.Piece.{Piece}

-- `ID`: a word that isn't reserved, or a quoted name
abbrev pub is_identifier_kind : Kind → Bool
is_identifier_kind Word = true
is_identifier_kind Fallback = true
is_identifier_kind Quoted = true
is_identifier_kind _ = false

-- `ids`: also a text
abbrev pub is_type_kind : Kind → Bool
is_type_kind Text = true
is_type_kind kind = is_identifier_kind kind

abbrev pub is_number_kind : Kind → Bool
is_number_kind Integer = true
is_number_kind Float = true
is_number_kind _ = false

-- a literal, NULL aside
abbrev pub is_literal_kind : Kind → Bool
is_literal_kind Text = true
is_literal_kind Blob = true
is_literal_kind kind = is_number_kind kind

abbrev pub is_close_kind : Kind → Bool
is_close_kind Close = true
is_close_kind _ = false

abbrev pub is_comma_kind : Kind → Bool
is_comma_kind Comma = true
is_comma_kind _ = false

abbrev pub is_semicolon_kind : Kind → Bool
is_semicolon_kind Semicolon = true
is_semicolon_kind _ = false

-- the token at a place is of one of these kinds
unfoldable pub has_kind : (Kind → Bool) → List Piece → (at : ℕ) → Bool
has_kind is_kind ts at = option_map_or (λ p. is_kind p.kind) (slice_get ts at) false
