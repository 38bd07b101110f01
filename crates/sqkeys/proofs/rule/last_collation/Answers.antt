use Rattle.std.proofs.Common.{◌<◌, length, arith}
use Rattle.sqkeys.specs.Columns.{collation_in}
use Rattle.sqdefaults.proofs.LastSaid.{next_said}
use Rattle.sqkeys.proofs.rule.last_collation.Goals as goal

pub loop-rule-preserved : goal.loop-rule-preserved
loop-rule-preserved c =
    let rules = c.args.rules.now in
    let below : c.loop-rule.rule-index < length rules = omega arith in
    let next = next_said (collation_in c.args.name.now) rules c.loop-rule.rule-index c.rule-item.result below c.rule-item.is in
    cc
