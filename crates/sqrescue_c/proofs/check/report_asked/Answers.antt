use Rattle.sqrescue_c.specs.Checks.{IsAskedVerdict}
use Rattle.sqrescue_c.proofs.ReportedFindings.{clean, damaged}
use Rattle.sqrescue_c.proofs.check.report_asked.Goals as goal

pub returns-in-Ok-Clean-clause-clean : goal.returns-in-Ok-Clean-clause-clean
returns-in-Ok-Clean-clause-clean c = λ _.
    let files = c.args.files.now in
    clean (IsAskedVerdict c.args.flags c.args.frame files.db.now files.wal.now files.journal.now) c.clean.result c.in-Ok-Clean.found c.clean.ensures
    (rw c.in-Ok-Clean.field-0-is at c.in-Ok-Clean.ensures.found)

pub returns-in-Ok-Damaged-clause-damaged : goal.returns-in-Ok-Damaged-clause-damaged
returns-in-Ok-Damaged-clause-damaged c = λ _.
    let files = c.args.files.now in
    damaged (IsAskedVerdict c.args.flags c.args.frame files.db.now files.wal.now files.journal.now) c.damaged.result c.in-Ok-Damaged.error
    c.damaged.ensures.fault c.damaged.ensures.page (rw c.in-Ok-Damaged.field-0-is at c.in-Ok-Damaged.ensures.found)
