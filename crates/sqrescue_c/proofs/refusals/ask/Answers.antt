use Rattle.sqrescue_c.proofs.AskedRecovery.{of_log, of_journal, of_neither, of_two}
use Rattle.sqrescue_c.proofs.refusals.ask.Goals as goal

pub returns-in-Ok-Wal : goal.returns-in-Ok-Wal
returns-in-Ok-Wal c =
    let files = c.args.files.now in
    let found = (rw c.in-Ok-Wal.field-0-is at c.in-Ok-Wal.ensures.answer) tt tt in
    of_log files.db.now files.wal.now files.journal.now c.ask_of_log.result found.0 c.ask_of_log.ensures

pub returns-then-names_super_journal : goal.returns-then-names_super_journal
returns-then-names_super_journal c =
    let found = (rw c.in-Ok-Journal.field-0-is at c.in-Ok-Journal.ensures.answer) tt tt in
    record { hot = found.0; alone = found.2; named = c.names_super_journal.ensures.0 c.if-names_super_journal.true }

pub returns-else-names_super_journal : goal.returns-else-names_super_journal
returns-else-names_super_journal c =
    let files = c.args.files.now in
    let found = (rw c.in-Ok-Journal.field-0-is at c.in-Ok-Journal.ensures.answer) tt tt in
    of_journal files.db.now files.wal.now files.journal.now found.0
    (λ named _. let yes = c.names_super_journal.ensures.1 named in let no = c.if-names_super_journal.false in absurd (cc))

pub returns-in-Ok-Neither : goal.returns-in-Ok-Neither
returns-in-Ok-Neither c =
    let files = c.args.files.now in
    let found = (rw c.in-Ok-Neither.field-0-is at c.in-Ok-Neither.ensures.answer) tt tt in
    of_neither files.db.now files.wal.now files.journal.now found.0 found.1

pub returns-in-Err : goal.returns-in-Err
returns-in-Err c = let files = c.args.files.now in of_two files.db.now files.wal.now files.journal.now c.in-Err.field-0 (c.in-Err.ensures.answer tt tt)
