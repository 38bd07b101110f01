use Rattle.std.proofs.Common.{map}
use Rattle.crashdisk.specs.Model.{state_of}
use Rattle.rig_shrink.proofs.SectorsByValue.{values_all}
use Rattle.rig_shrink.proofs.bytes.values.Goals as goal

pub returns : goal.returns
returns c = values_all (state_of c.args.disk.now) c.most_values-most.result (map (λ v. v.items) c.in_ok-all.all.items) c.most_values-most.ensures c.in_ok-all.ensures
