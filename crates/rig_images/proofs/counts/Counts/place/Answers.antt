use Rattle.std.proofs.Common.{◌+◌, ◌-◌, List, drop, sym, ◌∙◌, ap}
use Rattle.rig_images.specs.declared.counts.EpochCounts.{EpochCounts}
use Rattle.rig_images.specs.Images.{numbered}
use Rattle.rig_images.proofs.NumbersOfEpochImages.{here, later, nowhere}
use Rattle.rig_images.proofs.counts.Counts.place.Goals as goal

pub returns-then-rest-counts : goal.returns-then-rest-counts
returns-then-rest-counts c =
    let rest = c.loop-counts.rest in
    let i = c.loop-counts.counts-index in
    let xs = c.deref-counts-items.result.now in
    sym (c.loop-counts.invariant ∙ ap (λ (l : List EpochCounts). numbered (drop i l) rest) (sym c.deref-counts-items.ensures.value) ∙ here xs i rest c.counts-item.result c.loop-counts-test.true c.counts-item.is c.if-rest-counts.true)

pub loop-counts-preserved : goal.loop-counts-preserved
loop-counts-preserved c =
    let rest = c.loop-counts.rest in
    let i = c.loop-counts.counts-index in
    let xs = c.deref-counts-items.result.now in
    c.loop-counts.invariant ∙ ap (λ (l : List EpochCounts). numbered (drop i l) rest) (sym c.deref-counts-items.ensures.value) ∙ later xs i rest c.counts-item.result c.loop-counts-test.true c.counts-item.is c.if-rest-counts.false
    ∙ ap (λ (l : List EpochCounts). numbered (drop (i + 1) l) (rest - c.counts-item.result.images)) c.deref-counts-items.ensures.value

pub returns : goal.returns
returns c =
    let rest = c.loop-counts.rest in
    let i = c.loop-counts.counts-index in
    let xs = c.deref-counts-items.result.now in
    sym (c.loop-counts.invariant ∙ ap (λ (l : List EpochCounts). numbered (drop i l) rest) (sym c.deref-counts-items.ensures.value) ∙ nowhere xs i rest c.loop-counts-test.false)
