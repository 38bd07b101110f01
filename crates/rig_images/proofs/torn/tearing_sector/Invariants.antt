use Rattle.std.proofs.Common.{ℕ, ◌<◌, MatchOption}
use Rattle.crashdisk.specs.Model.{state_of}
use Rattle.rig_images.specs.internal.Tearing.{IsTearing}
use Rattle.rig_images.proofs.torn.tearing_sector.Given as goal

abbrev pub invariant-loop-k : goal.invariant-loop-k
invariant-loop-k g l = MatchOption l.found ((k : ℕ) → k < l.k → ¬ IsTearing (state_of l.disk) k) (IsTearing (state_of l.disk))
