use Rattle.std.proofs.Common.{MatchOption}
use Rattle.rig_images.specs.internal.Tearing.{NoneTearing, IsPlaceOf}
use Rattle.rig_images.proofs.torn.tearing_file.Given as goal

abbrev pub invariant-loop-i : goal.invariant-loop-i
invariant-loop-i g l = MatchOption l.found (NoneTearing l.files l.i) (λ p. IsPlaceOf l.files p.0.now p.1)
