use Rattle.std.proofs.Common.{◌+◌, ℕ, arith, subst, sym, take}
use Rattle.sqtables.specs.declared.list.Object.{Object}
use Rattle.cli_show_diff.specs.Changes.{texts_of}
use Rattle.cli_show_diff.specs.LeftOut.{HasCount, IsNewLeft}
use Rattle.cli_show_diff.proofs.LeftCounted.{no_more, one_more}
use Rattle.cli_show_diff.proofs.left.count_news.Goals as goal
use Rattle.cli_show_diff.proofs.left.count_news.Goals.{then-branch, else-branch}

pub loop-object-preserved : goal.loop-object-preserved
loop-object-preserved c =
    let names = texts_of c.args.names.now in
    let objects = c.args.news.now in
    let i = c.loop-object.object-index in
    let n = c.loop-object.count in
    let o = c.object-item.result in
    let left = c.in_ok-is_new_left.field-0 in
    let so_far = c.loop-object.invariant in
    let within = c.loop-object-test.true in
    let at = subst (λ (x : Object). IsNewLeft names c.args.olds.now x left) c.object-item.is c.in_ok-is_new_left.ensures in
    elim c.if-branch.branch [
      | then-branch w ↦ record {
        few = omega (arith, w.count-is, so_far.few);
        counted = subst (λ (m : ℕ). HasCount (IsNewLeft names c.args.olds.now) (take (i + 1) objects) m) (sym w.count-is) (one_more (IsNewLeft names c.args.olds.now) objects i o n left within so_far.counted at w.if-branch.true);
      }
      | else-branch w ↦ record {
        few = omega (arith, w.count-is, so_far.few);
        counted = subst (λ (m : ℕ). HasCount (IsNewLeft names c.args.olds.now) (take (i + 1) objects) m) (sym w.count-is) (no_more (IsNewLeft names c.args.olds.now) objects i o n left within so_far.counted at w.if-branch.false);
      }
    ]
