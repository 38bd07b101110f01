use Rattle.std.proofs.Common.{◌/◌, ◌≤◌, arith}
use Rattle.std.specs.List.{All}
use Rattle.rig_missing.specs.Missing.{InRanges, Leaves}
use Rattle.rig_missing.proofs.RangesOfSectors.{step_on}
use Rattle.rig_missing.proofs.missing.sectors_out.Goals as goal

pub loop-k-preserved : goal.loop-k-preserved
loop-k-preserved c =
    let size = c.args.size.bytes in
    let x = c.args.change.now in
    let above : x.from / size ≤ c.loop-k.k = omega (arith, c.loop-k.auto.k, c.first-first.ensures) in
    step_on (λ j. InRanges c.loop-k.ranges.items j) (λ j. InRanges c.add_if.new.ranges.items j) (λ j. All (λ d. ¬ Leaves size x.subject c.args.bytes.now j d) c.args.later.now)
    c.none_leaves-is_out.result (x.from / size) c.loop-k.k above c.none_leaves-is_out.ensures c.loop-k.invariant c.in_ok-add_if.ensures

pub returns : goal.returns
returns c = λ k.
    let is = c.loop-k.invariant k in (
      λ h. let so = is.0 h in record { touches = (so.0, omega (arith, so.0, so.1, c.first-first.ensures, c.stop.ensures, c.max-stop.ensures, c.loop-k.auto.k-end)); none = so.2 },
      λ out. is.1 (out.touches.0, omega (arith, out.touches.0, out.touches.1, c.first-first.ensures, c.stop.ensures, c.max-stop.ensures, c.loop-k-test.false), out.none),
    )
