use Rattle.std.proofs.Common.{subst}
use Rattle.sqtables.specs.declared.list.Object.{Object}
use Rattle.cli_show_diff.specs.Frames.{IsMakeText}
use Rattle.cli_show_diff.proofs.TextsAdded.{Added, none_added, texts_added}
use Rattle.cli_show_diff.proofs.frame.add_makes.Goals as goal

pub loop-object-init : goal.loop-object-init
loop-object-init c = none_added (IsMakeText c.args.olds.now) c.args.out.now.items

pub loop-object-preserved : goal.loop-object-preserved
loop-object-preserved c =
    let before = c.loop-object.out.items in
    let after = c.add_make.new.out.items in
    texts_added (IsMakeText c.args.olds.now) c.args.news.now c.loop-object.object-index c.object-item.result c.args.out.now.items before after c.loop-object-test.true c.loop-object.invariant
    (subst (λ (x : Object). Added (IsMakeText c.args.olds.now x) before after) c.object-item.is c.in-Ok.ensures.ok)
