use Rattle.crashdisk.specs.Model.{state_of}
use Rattle.crashdisk.specs.State.{IsImage}
use Rattle.rig_shrink.proofs.Searches.{NoneBelow}
use Rattle.rig_shrink.proofs.files.is_of_one.Given as goal

abbrev pub invariant-loop-i : goal.invariant-loop-i
invariant-loop-i l = NoneBelow (λ d. IsImage (state_of d).sector (state_of d).tears (state_of d).db l.bytes) l.files l.i
