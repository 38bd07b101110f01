use Rattle.std.proofs.Common.{◌≡◌, ℕ, ◌<◌, get_or}
use Rattle.rig_judge.proofs.snapshot.Snapshot.is_leaf.Given as goal

abbrev pub invariant-loop-leaf : goal.invariant-loop-leaf
invariant-loop-leaf l = (k : ℕ) → k < l.leaf-index → get_or l.self.leaves.items k 0 ≡ l.p → ⊥
