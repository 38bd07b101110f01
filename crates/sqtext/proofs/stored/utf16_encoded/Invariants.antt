use Rattle.std.proofs.Common.{◌≡◌}
use Rattle.std.specs.List.{flat_map}
use Rattle.sqtext.specs.Texts.{utf16_bytes}
use Rattle.sqtext.proofs.stored.utf16_encoded.Given as goal

abbrev pub invariant-loop-c : goal.invariant-loop-c
invariant-loop-c l = l.bytes.items ≡ flat_map (utf16_bytes l.big) l.yielded
