use Rattle.std.proofs.Common.{◌≡◌, ℕ, ◌<◌, get_or}
use Rattle.rig_play.specs.declared.meta.Epoch.{Epoch}
use Rattle.rig_families.proofs.version.is_left.Given as goal

abbrev pub invariant-loop-i : goal.invariant-loop-i
invariant-loop-i l = (k : ℕ) (e : Epoch) → k < l.i → get_or l.earlier k e ≡ l.epoch → ⊥
