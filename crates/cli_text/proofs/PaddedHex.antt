-- What a hole with a width in hex writes.
use Rattle.std.proofs.Common.{◌≡◌, ℕ, ◌-◌, ◌^◌, false, []}
use Rattle.std.specs.Fmt.{char_count, digits, format_spec, padded_integral}
use Rattle.std.proofs.lemmas.List.{append-nil}
use Rattle.std.proofs.Math.Nat.{sub-zero}
use Rattle.cli_text.specs.Facts.{hex_padded}

-- zeros before the digits
pub padded-hex : (least n : ℕ) → padded_integral (format_spec 32 0 4 least (2 ^ 64 - 1)) false [] (digits 16 false n) ≡ hex_padded least n
unfolding padded_integral char_count
padded-hex least n = simp (append-nil, sub-zero)
