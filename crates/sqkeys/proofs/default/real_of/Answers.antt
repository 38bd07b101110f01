use Rattle.std.proofs.Common.{◌≡◌, ◌∙◌, ◌%◌, ◌^◌, Bool, ℕ, ltb, is_nan, from_bits, sym, ap, cond}
use Rattle.std.proofs.lemmas.Bool.{lt-ltb, le-ltb}
use Rattle.std.proofs.lemmas.Float.{T_from_false}
use Rattle.std.specs.Float.{binary64}
use Rattle.sqlite_value.specs.declared.value.Value.TheVariants.{Null, Real}
use lib.Ieee.Bits.{nan_bits_is, nan_bits_above}
use Rattle.sqkeys.proofs.default.real_of.Goals as goal

nan_above : (bits : ℕ) → is_nan (from_bits binary64 bits) ≡ ltb 0x7ff0_0000_0000_0000 (bits % 2 ^ 63)
nan_above bits = sym (nan_bits_is binary64 bits) ∙ nan_bits_above binary64 bits

pub float_from_bits-result : goal.float_from_bits-result
float_from_bits-result c = T_from_false _ (nan_bits_above binary64 c.args.bits ∙ le-ltb _ _ c.if-bits-gt-EXPONENT.false)

pub returns-then-bits-gt-EXPONENT : goal.returns-then-bits-gt-EXPONENT
returns-then-bits-gt-EXPONENT c =
    let nan = nan_above c.args.bits ∙ lt-ltb _ _ c.if-bits-gt-EXPONENT.true in
    sym (ap (λ (nan : Bool). cond nan Null (Real (from_bits binary64 c.args.bits))) nan)

pub returns-else-bits-gt-EXPONENT : goal.returns-else-bits-gt-EXPONENT
returns-else-bits-gt-EXPONENT c =
    let nan = nan_above c.args.bits ∙ le-ltb _ _ c.if-bits-gt-EXPONENT.false in
    sym (ap (λ (nan : Bool). cond nan Null (Real (from_bits binary64 c.args.bits))) nan)
