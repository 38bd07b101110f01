use Rattle.std.proofs.Common.{◌+◌, ℕ, arith, subst, sym, take}
use Rattle.sqtables.specs.declared.list.Object.{Object}
use Rattle.cli_show_diff.specs.Changes.{texts_of}
use Rattle.cli_show_diff.specs.LeftOut.{HasCount, IsOldLeft}
use Rattle.cli_show_diff.proofs.LeftCounted.{no_more, one_more}
use Rattle.cli_show_diff.proofs.left.count_olds.Goals as goal
use Rattle.cli_show_diff.proofs.left.count_olds.Goals.{then-is_old_left, else-is_old_left}

pub loop-object-preserved : goal.loop-object-preserved
loop-object-preserved c =
    let names = texts_of c.args.names.now in
    let objects = c.args.olds.now in
    let i = c.loop-object.object-index in
    let n = c.loop-object.count in
    let o = c.object-item.result in
    let left = c.is_old_left.result in
    let so_far = c.loop-object.invariant in
    let within = c.loop-object-test.true in
    let at = subst (λ (x : Object). IsOldLeft names c.args.news.now x left) c.object-item.is c.is_old_left.ensures in
    elim c.if-is_old_left.branch [
      | then-is_old_left w ↦ record {
        few = omega (arith, w.count-is, so_far.few);
        counted = subst (λ (m : ℕ). HasCount (IsOldLeft names c.args.news.now) (take (i + 1) objects) m) (sym w.count-is) (one_more (IsOldLeft names c.args.news.now) objects i o n left within so_far.counted at w.if-is_old_left.true);
      }
      | else-is_old_left w ↦ record {
        few = omega (arith, w.count-is, so_far.few);
        counted = subst (λ (m : ℕ). HasCount (IsOldLeft names c.args.news.now) (take (i + 1) objects) m) (sym w.count-is) (no_more (IsOldLeft names c.args.news.now) objects i o n left within so_far.counted at w.if-is_old_left.false);
      }
    ]
