use Rattle.std.proofs.Common.{◌∙◌, arith}
use Rattle.sqrescue_c.proofs.AskedRecovery.{passed_as, refused_as}
use Rattle.sqrescue_c.proofs.ReportedView.{has_size}
use Rattle.sqrescue_c.proofs.view.sqr_size.Goals as goal

pub returns-in-Ok-clause-size : goal.returns-in-Ok-clause-size
returns-in-Ok-clause-size c = λ _.
    let files = c.args.files.now in
    has_size _ files.db.now files.wal.now files.journal.now c.in-Ok.view c.in-Ok.ensures.shown c.get.result c.count.result
    (c.get.ensures.value ∙ c.page_size.ensures) c.count.ensures

pub returns-in-Err-clause-recovery : goal.returns-in-Err-clause-recovery
returns-in-Err-clause-recovery c = let files = c.args.files.now in
    rw c.number.ensures (refused_as files.db.now files.wal.now files.journal.now c.in-Err.status c.in-Err.ensures)

pub returns-in-Ok-clause-recovery : goal.returns-in-Ok-clause-recovery
returns-in-Ok-clause-recovery c = let files = c.args.files.now in
    passed_as files.db.now files.wal.now files.journal.now c.number-in-Ok.result (omega (arith, c.number-in-Ok.ensures)) c.in_default.ensures
