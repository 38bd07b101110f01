use Rattle.std.proofs.Common.{◌≢◌, inl, inr, arith}
use Rattle.std.proofs.lemmas.Bool.{cases_lt}
use Rattle.rig_store.specs.Differing.{InRanges, sector_bytes}
use Rattle.rig_store.proofs.RangesOfSectors.{step_on}
use Rattle.rig_store.proofs.SectorsOfFiles.{same_behind}
use Rattle.rig_store.proofs.differing.sectors_between.Goals as goal

pub loop-k-preserved : goal.loop-k-preserved
loop-k-preserved c =
    let size = c.args.size in
    let a = c.args.shown.now in
    let b = c.args.now.now in
    step_on (λ j. InRanges c.loop-k.ranges.items j) (λ j. InRanges c.add_if.new.ranges.items j) (λ j. sector_bytes size j a ≢ sector_bytes size j b)
    c.differ_in-differ.result 0 c.loop-k.k (omega arith) c.differ_in-differ.ensures c.loop-k.invariant c.in_ok-add_if.ensures

pub returns : goal.returns
returns c = λ k.
    let is = c.loop-k.invariant k in
    let size = c.args.size in
    let a = c.args.shown.now in
    let b = c.args.now.now in
    let longest = c.longest_of-longest.result in (
      λ h. (is.0 h).2,
      λ differ. elim (cases_lt k c.stop_of-stop.result) [
        | inl less ↦ is.1 (omega arith, omega (arith, less, c.loop-k-test.false), differ)
        | inr past ↦ absurd (differ (same_behind size k longest a b c.requires c.longest_of-longest.ensures.shown c.longest_of-longest.ensures.now (omega (arith, past, c.stop_of-stop.ensures))))
      ],
    )
