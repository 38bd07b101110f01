use Rattle.std.proofs.Common.{◌+◌, List, ℕ, arith, subst, sym, take, take_all}
use Rattle.sqtables.specs.declared.list.Object.{Object}
use Rattle.cli_show_rows.specs.Dumps.{HasLeftOut, IsLeftOut}
use Rattle.cli_show_rows.proofs.LeftOut.{kept_more, left_out_more}
use Rattle.cli_show_rows.proofs.texts.left_out.Goals as goal
use Rattle.cli_show_rows.proofs.texts.left_out.Goals.{then-branch, else-branch}

pub loop-object-preserved : goal.loop-object-preserved
loop-object-preserved c =
    let objects = c.args.objects.now in
    let i = c.loop-object.object-index in
    let n = c.loop-object.count in
    let o = c.object-item.result in
    let left = c.in_ok-leaves_out.field-0 in
    let so_far = c.loop-object.invariant in
    let within = c.loop-object-test.true in
    let is = subst (λ (x : Object). IsLeftOut x left) c.object-item.is c.in_ok-leaves_out.ensures in
    elim c.if-branch.branch [
      | then-branch w ↦ record {
        few = omega (arith, w.count-is, so_far.few);
        counted = subst (λ (m : ℕ). HasLeftOut (take (i + 1) objects) m) (sym w.count-is) (left_out_more objects i o n left within so_far.counted is w.if-branch.true);
      }
      | else-branch w ↦ record {
        few = omega (arith, w.count-is, so_far.few);
        counted = subst (λ (m : ℕ). HasLeftOut (take (i + 1) objects) m) (sym w.count-is) (kept_more objects i o n left within so_far.counted is w.if-branch.false);
      }
    ]

pub returns-clause-counted : goal.returns-clause-counted
returns-clause-counted c =
    let objects = c.args.objects.now in
    let i = c.loop-object.object-index in
    let all = take_all i objects (omega (arith, c.loop-object-test.false)) in
    subst (λ (os : List Object). HasLeftOut os c.loop-object.count) all c.loop-object.invariant.counted
