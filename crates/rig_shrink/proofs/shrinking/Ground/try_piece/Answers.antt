use Rattle.std.proofs.Common.{refl}
use Rattle.rig_shrink.proofs.PiecesDown.{when_true, when_false}
use Rattle.rig_shrink.proofs.shrinking.Ground.try_piece.Goals as goal

pub returns-then-not-may : goal.returns-then-not-may
returns-then-not-may g c = (refl, (c.in-Ok.next, c.in-Ok.ensures, when_false c.in_ok-may.may _ _ c.if-not-may.true c.in_ok-may.ensures))

pub returns : goal.returns
returns g c = (c.in-Ok.ensures, when_true c.in_ok-may.may _ _ c.if-not-may.false c.in_ok-may.ensures)
