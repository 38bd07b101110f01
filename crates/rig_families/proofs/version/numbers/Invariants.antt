use Rattle.std.proofs.Common.{◌≡◌, length, map}
use Rattle.std.specs.List.{range_with_len}
use Rattle.crashdisk.specs.Model.{state_of}
use Rattle.rig_families.proofs.version.numbers.Given as goal

abbrev pub invariant-loop-k : goal.invariant-loop-k
invariant-loop-k l = l.numbers.items ≡ map (λ k. length ((state_of l.disk).db.earlier k)) (range_with_len 0 l.k)
