use Rattle.std.proofs.Common.{◌≡◌, ◌<◌, length, max, get_or, ◌∙◌, ap, arith}
use Rattle.std.proofs.lemmas.Grind.{get_or_default_zero, common_steps}
use Rattle.history.proofs.GreatestSoFar.{greatest_none, greatest_more, greatest_all}
use Rattle.history.proofs.table.Table.new.Goals as goal

pub loop-place-init : goal.loop-place-init
loop-place-init c = greatest_none c.args.until.items

pub loop-place-preserved : goal.loop-place-preserved
loop-place-preserved c =
    let i = c.loop-place.place in
    let items = c.loop-place.greatest.items in
    let lt : i < length items = omega (arith, c.loop-place.invariant.long) in
    let at : c.index.result.now ≡ get_or items i 0 = c.index.ensures ∙ get_or_default_zero items i c.index.result.now lt in
    greatest_more c.args.until.items i c.loop-place.most items c.loop-place.invariant lt c.max-most.result
    (let e : c.max-most.result ≡ max c.loop-place.most c.index.result.now = grind (arith, common_steps) in e ∙ ap (max c.loop-place.most) at)

pub returns : goal.returns
returns c = greatest_all c.args.until.items c.loop-place.place c.loop-place.most c.loop-place.greatest.items (omega (arith, c.loop-place.invariant.long, c.len-place-end.ensures)) c.loop-place.invariant
