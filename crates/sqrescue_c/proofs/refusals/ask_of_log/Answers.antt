use Rattle.sqrescue_c.proofs.AskedRecovery.{log_cut, log_bad, log_same, log_other}
use Rattle.sqrescue_c.proofs.refusals.ask_of_log.Goals as goal

pub returns-then-has_other_size : goal.returns-then-has_other_size
returns-then-has_other_size c =
    let found = rw c.in-Some-Ok.field-0-is at c.in-Some-Ok.ensures in
    log_other c.args.db.now c.args.wal.now c.refuse_front.result c.in-Some-Ok.header found.1 (c.has_other_size.ensures.0 c.if-has_other_size.true)
    c.refuse_front.ensures.refused c.refuse_front.ensures.passed

pub returns-else-has_other_size : goal.returns-else-has_other_size
returns-else-has_other_size c =
    let found = rw c.in-Some-Ok.field-0-is at c.in-Some-Ok.ensures in
    log_same c.args.db.now c.args.wal.now c.in-Some-Ok.header found.1
    (λ other. absurd (let yes = c.has_other_size.ensures.1 other in let no = c.if-has_other_size.false in cc))

pub returns-in-Some-Err : goal.returns-in-Some-Err
returns-in-Some-Err c =
    let found = rw c.in-Some-Err.field-0-is at c.in-Some-Err.ensures in
    rw c.version_alone.ensures (log_bad c.args.db.now c.args.wal.now c.in-Some-Err.error found.0 found.1)

pub returns-in-None : goal.returns-in-None
returns-in-None c = log_cut c.args.db.now c.args.wal.now c.in-None.ensures
