use Rattle.cli_show.specs.Limits.{limits_named}
use Rattle.cli_recover.proofs.RecoveredFiles.{done_over}
use Rattle.cli_recover.proofs.recovering.carried_out_on.Goals as goal

pub returns-in-Ok-clause-disk : goal.returns-in-Ok-clause-disk
returns-in-Ok-clause-disk g c =
    let disk = c.carry_out.new.disk in
    done_over g.D.Over.is_over g.D.Disk.keeps_word g.D.Disk.state g.G.Gate.lets_change c.limits_of.result (limits_named c.args.job.now.source.now.options.large)
    c.args.planned.db c.args.log.0 c.args.planned.plan c.in-Ok.outcome c.over.result c.args.guard c.new-disk.result disk c.limits_of.ensures
    c.new-disk.ensures.disk c.new-disk.ensures.guard c.over.ensures c.in-Ok.ensures.disk.holds
