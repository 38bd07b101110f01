use Rattle.std.proofs.Common.{◌∙◌, length, inl, inr, arith, ap}
use Rattle.sqrescue_c.specs.internal.Statuses.{number_of}
use Rattle.sqrescue_c.specs.Statuses.{past_status}
use Rattle.sqrescue_c.proofs.AskedRecovery.{passed_at, refused_as_at, refused_low_at, other_low, other_past}
use Rattle.sqrescue_c.proofs.ReportedView.{opened_at, crowded_at}
use Rattle.sqrescue_c.proofs.view.sqr_open_at.Goals as goal

pub returns-in-Ok-hand_over-clause-opened : goal.returns-in-Ok-hand_over-clause-opened
returns-in-Ok-hand_over-clause-opened c = λ _.
    let files = c.args.files.now in
    let out = c.hand_over.new.out in
    let handed = c.in-Ok-hand_over.ensures in
    let reads = c.in-Ok.ensures.reads in
    opened_at _ c.args.frame files.db.now files.wal.now files.journal.now c.in-Ok.view c.in-Ok.ensures.answer
    out.page_size out.pages out.db.now out.log.now out.places.now
    handed.sizes.0 handed.sizes.1 reads.0 reads.1 handed.bytes.0 handed.bytes.1 handed.places.0

pub returns-clause-refused : goal.returns-clause-refused
returns-clause-refused c = λ _ _.
    let files = c.args.files.now in
    let few = c.in-Err-hand_over.ensures.crowded in
    inl (crowded_at _ c.args.frame files.db.now files.wal.now files.journal.now c.in-Ok.view c.in-Ok.ensures.answer
    (length c.args.places.now) c.number-in-Err-hand_over.result
    (c.number-in-Err-hand_over.ensures ∙ ap number_of few.0) few.1)

pub returns-in-Err-clause-recovery : goal.returns-in-Err-clause-recovery
returns-in-Err-clause-recovery c = let files = c.args.files.now in
    rw c.number.ensures (refused_as_at files.db.now files.wal.now files.journal.now c.args.frame c.in-Err.status c.in-Err.ensures)

pub returns-in-Err-view_at-clause-recovery : goal.returns-in-Err-view_at-clause-recovery
returns-in-Err-view_at-clause-recovery c = let files = c.args.files.now in
    rw c.number-in-Err-view_at.ensures (rw c.past_status.ensures (passed_at files.db.now files.wal.now files.journal.now c.args.frame
    (past_status c.in-Err-view_at.error) (other_past c.in-Err-view_at.error) c.in_default.ensures))

pub returns-in-Ok-hand_over-clause-recovery : goal.returns-in-Ok-hand_over-clause-recovery
returns-in-Ok-hand_over-clause-recovery c = let files = c.args.files.now in
    passed_at files.db.now files.wal.now files.journal.now c.args.frame c.number-in-Ok-hand_over.result
    (other_low c.number-in-Ok-hand_over.result (omega (arith, c.number-in-Ok-hand_over.ensures))) c.in_default.ensures

pub returns-clause-recovery : goal.returns-clause-recovery
returns-clause-recovery c = let files = c.args.files.now in
    let few = c.in-Err-hand_over.ensures.crowded in
    passed_at files.db.now files.wal.now files.journal.now c.args.frame c.number-in-Err-hand_over.result
    (other_low c.number-in-Err-hand_over.result (omega (arith, c.number-in-Err-hand_over.ensures ∙ ap number_of few.0))) c.in_default.ensures

pub returns-in-Err-clause-refused : goal.returns-in-Err-clause-refused
returns-in-Err-clause-refused c = λ _ low. let files = c.args.files.now in
    rw c.number.ensures (inr (refused_low_at files.db.now files.wal.now files.journal.now c.args.frame c.in-Err.status c.in-Err.ensures
    (rw c.number.ensures at low)))
