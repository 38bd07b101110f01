use Rattle.rollcore.proofs.Facts.{Device, None, Ok, Option, Plan, ap, during, passed, plan_none, read_planned, read_scan, rules, scan_cold, scan_read, tells_again, ◌∙◌}
use Rattle.rollcore.proofs.disk.ToldRefusals.{told_err}
use Rattle.rollcore.proofs.plan.read_plan.Goals as goal

pub returns-in_err-scan-clause-disk : goal.returns-in_err-scan-clause-disk
returns-in_err-scan-clause-disk g c = during (search rules) (λ word.
    let by_scan_log = c.scan_log.ensures.holds word in
    record {
      still = search rules;
      told = told_err c.from_residual.result c.scan_log.result _ (g.D.Disk.state c.args.disk.now) (g.D.Disk.state c.scan_log.new.disk) c.in_err-scan.was (passed c.from_residual.result _ c.from_residual.ensures.1) by_scan_log.told;
      found = λ w are long. read_scan c.args.limits.bytes c.args.torn w _ _ c.scan_log.result c.from_residual.result _ c.in_err-scan.was (passed c.from_residual.result _ c.from_residual.ensures.1) (by_scan_log.found w are long);
    })

pub returns-in-Some-clause-disk : goal.returns-in-Some-clause-disk
returns-in-Some-clause-disk g c = during (search rules) (λ word.
    let by_scan_log = c.scan_log.ensures.holds word in
    record {
      still = search rules;
      told = tells_again Device c.plan_of.result c.scan_log.result _ (g.D.Disk.state c.args.disk.now) (g.D.Disk.state c.scan_log.new.disk) c.in_ok-scan.was by_scan_log.told;
      found = λ w are long. read_planned c.args.limits.bytes c.args.torn w _ _ c.plan_of.result (c.plan_of.ensures.plan w (scan_read c.args.limits.bytes c.args.torn w _ _ c.scan_log.result c.in-Some.scan (c.in_ok-scan.was ∙ ap Ok c.in-Some.is) (by_scan_log.found w are long)));
    })

pub returns-in-None-clause-disk : goal.returns-in-None-clause-disk
returns-in-None-clause-disk g c = during (search rules) (λ word.
    let by_scan_log = c.scan_log.ensures.holds word in
    record {
      still = search rules;
      told = tells_again {T = Option Plan} Device (Ok None) c.scan_log.result _ (g.D.Disk.state c.args.disk.now) (g.D.Disk.state c.scan_log.new.disk) c.in_ok-scan.was by_scan_log.told;
      found = λ w are long. read_planned c.args.limits.bytes c.args.torn w _ _ _ (plan_none c.args.limits.bytes c.args.torn w (scan_cold c.args.limits.bytes c.args.torn w _ _ c.scan_log.result (c.in_ok-scan.was ∙ ap Ok c.in-None.is) (by_scan_log.found w are long)));
    })
