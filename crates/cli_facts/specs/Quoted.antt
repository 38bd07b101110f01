-- How a name stands in a note: as `ls` prints it on a terminal (own).
use Rattle.std.specs.Prelude.{ℕ, ◌==◌, ◌^◌, ◌-◌, false, if◌then◌else◌, List, [], ◌++◌, codes}
use Rattle.std.specs.List.{flat_map, list_any}
use Rattle.std.specs.Char.{encode_utf8, is_control}
use Rattle.std.specs.Int.{is_in_range}
use Rattle.std.specs.Fmt.{digits, format_spec, padded_integral}
use Rattle.std.specs.Str.{chars}

-- a number in octal, of three digits at least
abbrev pub octal : ℕ → List ℕ
octal n = padded_integral (format_spec 32 0 4 3 (2 ^ 64 - 1)) false [] (digits 8 false n)

-- a control character as a shell takes it, between the quotes of what stands before and behind it
abbrev pub control_text : (character : ℕ) → List ℕ
control_text c =
    if c == 10 then codes "'$'\\n''" else if c == 13 then codes "'$'\\r''" else if c == 9 then codes "'$'\\t''"
    else if is_in_range 0x80 0x9f c then codes "'$'\\302\\" ++ (octal c ++ codes "''") else codes "'$'\\" ++ (octal c ++ codes "''")

-- a character of a name between quotes
abbrev pub letter_text : (character : ℕ) → List ℕ
letter_text c = if is_control c then control_text c else if c == 39 then codes "'\\''" else encode_utf8 c

-- a name: between quotes where it has control characters
abbrev pub name_text : (name : List ℕ) → List ℕ
name_text name =
    if list_any is_control (chars name) then codes "'" ++ (flat_map letter_text (chars name) ++ codes "'") else name
