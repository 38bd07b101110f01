use Rattle.std.proofs.Common.{ℕ, ◌<◌, [], get_or, map}
use Rattle.rig_shrink.specs.internal.Values.{IsSameIn}
use Rattle.rig_shrink.proofs.bytes.is_same_as_one.Given as goal

abbrev pub invariant-loop-n : goal.invariant-loop-n
invariant-loop-n l = (m : ℕ) → m < l.n → ¬ IsSameIn l.sector l.k (get_or (map (λ v. v.items) l.all) m []) l.bytes
