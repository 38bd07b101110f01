use Rattle.rig_judge.proofs.LeavesOfFreelist.{leaves_of_nothing}
use Rattle.rig_judge.proofs.snapshot.Snapshot.nothing.Goals as goal

pub returns : goal.returns
returns c = record { pages = c.new.ensures.items; leaves = leaves_of_nothing _ c.new-2.ensures.items }
