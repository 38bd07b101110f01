use Rattle.std.proofs.Common.{◌≡◌, ℕ, ◌<◌}
use Rattle.sqdeep.specs.Texts.{unit, is_low, follows_high}
use Rattle.sqdeep.proofs.text.is_utf16.Given as goal

-- the units so far are paired
abbrev pub invariant-units : goal.invariant-units
invariant-units l = record {
  high : l.high ≡ follows_high (unit l.big l.bytes) l.k;
  paired : (j : ℕ) → j < l.k → is_low (unit l.big l.bytes j) ≡ follows_high (unit l.big l.bytes) j;
}
