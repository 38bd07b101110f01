use Rattle.crashdisk.proofs.Below.{Loses, [], ap, arith, before_last, get_or_default, length, not_yet, one_more, refl, slice_index_or, ◌<◌, ◌∙◌}
use Rattle.crashdisk.proofs.held.undo.Goals as goal

pub loop-k-preserved : goal.loop-k-preserved
loop-k-preserved c =
    let list = c.args.list.now in
    let old = c.args.sectors.now.items in
    let mid = c.loop-k.sectors.items in
    let n = c.loop-k.k-index in
    let there : slice_index_or list n 0 < length mid = omega (arith, c.loop-k.invariant.count, c.requires.rising.below n c.loop-k-test.true) in
    one_more list Loses old (length old) c.requires.rising n mid _ c.pop.new.self c.loop-k-test.true c.loop-k.invariant there refl
    (c.pop.ensures ∙ ap before_last (c.index_mut.ensures.value ∙ get_or_default mid (slice_index_or list n 0) c.index_mut.result.now [] there ∙ not_yet list Loses old (length old) c.requires.rising n mid c.loop-k-test.true c.loop-k.invariant))
