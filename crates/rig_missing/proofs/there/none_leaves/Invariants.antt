use Rattle.std.proofs.Common.{ℕ, ◌<◌, get_or}
use Rattle.rig_missing.specs.Missing.{Leaves}
use Rattle.rig_missing.specs.declared.change.Change.{Change}
use Rattle.rig_missing.proofs.there.none_leaves.Given as goal

abbrev pub invariant-loop-change : goal.invariant-loop-change
invariant-loop-change l = (m : ℕ) (d : Change) → m < l.change-index → ¬ Leaves l.size.bytes l.subject l.bytes l.k (get_or l.changes m d)
