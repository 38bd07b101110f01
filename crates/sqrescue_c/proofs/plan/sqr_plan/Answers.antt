use Rattle.std.proofs.Common.{inr}
use Rattle.sqrescue_c.proofs.AskedRecovery.{passed_as, refused_as}
use Rattle.sqrescue_c.proofs.PlannedRecoveries.{counted_refused}
use Rattle.sqrescue_c.proofs.plan.sqr_plan.Goals as goal

pub returns-in-Err-clause-recovery : goal.returns-in-Err-clause-recovery
returns-in-Err-clause-recovery c = let files = c.args.files.now in
    rw c.number.ensures (refused_as files.db.now files.wal.now files.journal.now c.in-Err.status c.in-Err.ensures)

pub returns-in-Ok : goal.returns-in-Ok
returns-in-Ok c =
    let files = c.args.files.now in
    let answer = c.plan_from.ensures in
    record {
      planned = answer.planned;
      refused = λ some _. answer.refused some;
      recovery = passed_as files.db.now files.wal.now files.journal.now c.plan_from.result answer.low c.in_default.ensures;
      room = answer.room;
      kept = answer.kept;
    }

pub returns-in-Err-counting-clause-refused : goal.returns-in-Err-counting-clause-refused
returns-in-Err-counting-clause-refused c = λ _ _.
    let files = c.args.files.now in
    inr (record {
      error = c.in-Err-counting.error;
      numbered = c.view_number.ensures;
      refused = counted_refused files.db.now files.wal.now files.journal.now c.in-Err-counting.error c.in-Err-counting.ensures;
    })
