use Rattle.rig_shrink.proofs.shrinking.shrink.Goals as goal

pub returns : goal.returns
returns g c = record { present = c.set_present.new.self; is_present = c.in_ok-set_present.ensures; below = c.in_ok-image.ensures.below; least = c.in_ok-image.ensures.least }
