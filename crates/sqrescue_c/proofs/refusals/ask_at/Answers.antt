use Rattle.std.proofs.Common.{arith}
use Rattle.sqrescue_c.proofs.AskedRecovery.{of_log_at, of_neither, of_two, none_at}
use Rattle.sqrescue_c.proofs.refusals.ask_at.Goals as goal

pub returns-in-Ok-Wal : goal.returns-in-Ok-Wal
returns-in-Ok-Wal c =
    let files = c.args.files.now in
    let found = (rw c.in-Ok-Wal.field-0-is at c.in-Ok-Wal.ensures.answer) tt tt in
    of_log_at files.db.now files.wal.now files.journal.now c.args.frame c.ask_of_log.result (omega (arith, c.if-frame-eq0.false)) found.0 c.ask_of_log.ensures

pub returns-in-Ok-Journal : goal.returns-in-Ok-Journal
returns-in-Ok-Journal c =
    let found = (rw c.in-Ok-Journal.field-0-is at c.in-Ok-Journal.ensures.answer) tt tt in
    λ _. (λ v. v.cold found.0, λ h. h.cold found.0)

pub returns-in-Ok-Neither : goal.returns-in-Ok-Neither
returns-in-Ok-Neither c =
    let files = c.args.files.now in
    let found = (rw c.in-Ok-Neither.field-0-is at c.in-Ok-Neither.ensures.answer) tt tt in
    none_at files.db.now files.wal.now files.journal.now c.args.frame (of_neither files.db.now files.wal.now files.journal.now found.0 found.1)

pub returns-in-Err : goal.returns-in-Err
returns-in-Err c =
    let files = c.args.files.now in
    none_at files.db.now files.wal.now files.journal.now c.args.frame
    (of_two files.db.now files.wal.now files.journal.now c.in-Err.field-0 (c.in-Err.ensures.answer tt tt))
