use Rattle.std.proofs.Common.{◌≡◌, ◌%◌, ◌^◌, take}
use Rattle.std.specs.List.{sum_by}
use Rattle.fmt_super.specs.Supers.{signed}
use Rattle.fmt_super.proofs.name.name_sum.Given as goal

abbrev pub invariant-loop-byte : goal.invariant-loop-byte
invariant-loop-byte l = l.sum ≡ sum_by signed (take l.byte-index l.name) % 2 ^ 32
