-- Names of a schema as strings of JSON.
use Rattle.std.proofs.Common.{◌≡◌, ℕ, Bool, true, false, List, refl, ap}
use Rattle.std.specs.Prelude.{if◌then◌else◌}
use Rattle.std.specs.Str.{IsUtf8, is_utf8}
use Rattle.std.proofs.lemmas.Str.{IsUtf8-from_is_utf8, is_utf8-from_IsUtf8}
use Rattle.cli_row_text.specs.Lines.{json_string}
use Rattle.cli_show_deep.specs.Parts.{hex_string, name_string}

pub utf8_name : (name : List ℕ) → IsUtf8 name → name_string name ≡ json_string name
utf8_name name is = ap (λ (b : Bool). if b then json_string name else hex_string name) (is_utf8-from_IsUtf8 name is)

pub hex_name : (name : List ℕ) → ¬ IsUtf8 name → name_string name ≡ hex_string name
hex_name name none = by (is_utf8 name) refl
  where
    by : (b : Bool) → is_utf8 name ≡ b → name_string name ≡ hex_string name
    by true e = absurd (none (IsUtf8-from_is_utf8 name e))
    by false e = ap (λ (b : Bool). if b then json_string name else hex_string name) e
