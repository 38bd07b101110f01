use Rattle.std.proofs.Common.{◌≡◌, drop, map}
use Rattle.crashdisk.specs.Model.{state_of}
use Rattle.rig_images.specs.Ways.{files_way}
use Rattle.rig_images.proofs.image.append_way.Given as goal

abbrev pub invariant-loop-disk : goal.invariant-loop-disk
invariant-loop-disk l = (files_way (map (λ d. state_of d) l.files) l.fn.n ≡ files_way (drop l.disk-index (map (λ d. state_of d) l.files)) l.rest) × (l.out.items ≡ l.fn.out.items)
