use Rattle.walcore.proofs.Facts.{Device, Ok, ap, during, passed, passes_device, plan_bare, quiet_ok, read_none, read_planned, read_scan, read_some, ◌∙◌}
use Rattle.walcore.proofs.plan.read_plan.Goals as goal

pub returns-in_err-scanned-clause-disk : goal.returns-in_err-scanned-clause-disk
returns-in_err-scanned-clause-disk g c = during c.scan_log.ensures.word (λ word.
    let scanned = c.scan_log.ensures.holds word in
    record {
      still = scanned.still;
      told = λ more. passes_device Device c.scan_log.result c.from_residual.result _ c.in_err-scanned.was c.from_residual.ensures.1 (scanned.told more);
      found = λ w are long. read_scan c.args.limits c.args.page_size w _ _ c.scan_log.result c.from_residual.result _ c.in_err-scanned.was (passed c.from_residual.result _ c.from_residual.ensures.1) (scanned.found w are long c.args.limits.frames c.within.ensures);
    })

pub returns-in-Some-clause-disk : goal.returns-in-Some-clause-disk
returns-in-Some-clause-disk g c = during c.scan_log.ensures.word (λ word.
    let scanned = c.scan_log.ensures.holds word in
    record {
      still = scanned.still;
      told = λ more. absurd (quiet_ok Device c.scan_log.result _ (g.D.Disk.state c.args.disk.now) (g.D.Disk.state c.scan_log.new.disk) c.in_ok-scanned.was scanned.told more);
      found = λ w are long.
          read_planned c.args.limits c.args.page_size w _ _ c.plan_of.result (c.plan_of.ensures.plan w (read_some c.args.limits c.args.page_size w _ _ c.in-Some.scan c.scan_log.result (c.in_ok-scanned.was ∙ ap Ok c.in-Some.is) (scanned.found w are long c.args.limits.frames c.within.ensures)));
    })

pub returns-in-None-clause-disk : goal.returns-in-None-clause-disk
returns-in-None-clause-disk g c = during c.scan_log.ensures.word (λ word.
    let scanned = c.scan_log.ensures.holds word in
    record {
      still = scanned.still;
      told = λ more. absurd (quiet_ok Device c.scan_log.result _ (g.D.Disk.state c.args.disk.now) (g.D.Disk.state c.scan_log.new.disk) c.in_ok-scanned.was scanned.told more);
      found = λ w are long.
          read_planned c.args.limits c.args.page_size w _ _ _ (plan_bare c.args.limits c.args.page_size w c.no_plan.result (read_none c.args.limits c.args.page_size w _ _ c.scan_log.result (c.in_ok-scanned.was ∙ ap Ok c.in-None.is) (scanned.found w are long c.args.limits.frames c.within.ensures)) c.no_plan.ensures.frames c.no_plan.ensures.size);
    })
