use Rattle.std.proofs.Common.{◌≡◌, ◌+◌, ◌<◌, length, drop, map, get_or, sym, ◌∙◌, ap, arith}
use Rattle.std.proofs.lemmas.List.{get_or-map, length-map}
use Rattle.crashdisk.specs.Call.{DiskState}
use Rattle.crashdisk.specs.Model.{state_of}
use Rattle.crashdisk.specs.declared.model.ModelDisk.{ModelDisk}
use Rattle.std.specs.Prelude.{List, ℕ}
use Rattle.rig_images.specs.Ways.{file_ways, files_ways}
use Rattle.rig_images.proofs.CountsOfWays.{files_step}
use Rattle.rig_images.proofs.counts.files_count.Goals as goal

-- the files from one on
step : (xs : List ModelDisk) (i : ℕ) (x : ModelDisk) → i < length xs → x ≡ get_or xs i x
    → files_ways (drop i (map (λ d. state_of d) xs)) ≡ file_ways (state_of x) + files_ways (drop (i + 1) (map (λ d. state_of d) xs))
step xs i x less is =
    let f : ModelDisk → DiskState = λ d. state_of d in
    let long : length (map f xs) ≡ length xs = length-map xs f in
    files_step (map f xs) i (state_of x) (omega arith) (ap f is ∙ sym (get_or-map f xs i x (state_of x) less))

pub returns-in_default : goal.returns-in_default
returns-in_default c =
    omega (arith, c.loop-disk.invariant.0, c.loop-disk.invariant.1, c.in_default.ensures, step c.args.files.now c.loop-disk.disk-index c.disk-item.result c.loop-disk-test.true c.disk-item.is)

pub loop-disk-preserved : goal.loop-disk-preserved
loop-disk-preserved c = (
  omega (arith, c.loop-disk.invariant.0, c.in-Some.ensures.0, step c.args.files.now c.loop-disk.disk-index c.disk-item.result c.loop-disk-test.true c.disk-item.is),
  omega (arith, c.loop-disk.invariant.1, c.in-Some.ensures.1),
)
