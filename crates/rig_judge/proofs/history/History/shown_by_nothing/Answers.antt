use Rattle.std.proofs.Common.{◌≤◌, [], length, arith}
use Rattle.rig_judge.proofs.NumberedCommits.{step_none}
use Rattle.rig_judge.proofs.history.History.shown_by_nothing.Goals as goal

pub loop-k-preserved : goal.loop-k-preserved
loop-k-preserved c =
    let xs = c.args.self.now.commits.items in
    let within : c.loop-k.k ≤ length xs = omega (arith, c.loop-k.auto.k, c.len-k.ensures, c.args.self.now.commits.ok.0) in
    step_none xs c.loop-k.k c.index.result.now [] c.is_empty.result (omega arith) within c.index.ensures c.if-is_empty.false c.is_empty.ensures c.loop-k.invariant
