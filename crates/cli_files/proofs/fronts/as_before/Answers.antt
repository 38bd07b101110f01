use Rattle.cli_files.proofs.ReadBefore.{all_before, all_same}
use Rattle.cli_files.proofs.fronts.as_before.Goals as goal

pub returns-clause-read : goal.returns-clause-read
returns-clause-read g c =
    let before = c.args.before.now in
    let after = c.in_ok-after.after in
    all_before c.args.only_logs before after
    (all_same before after c.unchanged.result c.in_ok-unchanged.field-0 c.unchanged.ensures.changed c.in_ok-unchanged.was) c.in_ok-after.ensures.read

pub returns-clause-same : goal.returns-clause-same
returns-clause-same g c =
    all_same c.args.before.now c.in_ok-after.after c.unchanged.result c.in_ok-unchanged.field-0 c.unchanged.ensures.changed c.in_ok-unchanged.was
