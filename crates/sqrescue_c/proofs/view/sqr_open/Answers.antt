use Rattle.std.proofs.Common.{◌∙◌, length, inl, arith, refl, ap}
use Rattle.sqrescue_c.specs.internal.Statuses.{number_of}
use Rattle.sqrescue_c.specs.Statuses.{view_status}
use Rattle.sqrescue_c.proofs.AskedRecovery.{passed_as, refused_as, low_view}
use Rattle.sqrescue_c.proofs.ReportedView.{opened, crowded}
use Rattle.sqrescue_c.proofs.view.sqr_open.Goals as goal

pub returns-in-Ok-hand_over-clause-opened : goal.returns-in-Ok-hand_over-clause-opened
returns-in-Ok-hand_over-clause-opened c = λ _.
    let files = c.args.files.now in
    let out = c.hand_over.new.out in
    let handed = c.in-Ok-hand_over.ensures in
    opened _ files.db.now files.wal.now files.journal.now c.in-Ok.view c.in-Ok.ensures.shown
    out.page_size out.pages out.db.now out.log.now out.places.now
    handed.sizes.0 handed.sizes.1 c.in-Ok.ensures.reads handed.bytes.0 handed.bytes.1 handed.places.0

pub returns-clause-refused : goal.returns-clause-refused
returns-clause-refused c = λ _ _.
    let files = c.args.files.now in
    let few = c.in-Err-hand_over.ensures.crowded in
    inl (crowded _ files.db.now files.wal.now files.journal.now c.in-Ok.view c.in-Ok.ensures.shown
    (length c.args.places.now) (length c.in-Ok.view.places.items) c.number-in-Err-hand_over.result
    (c.number-in-Err-hand_over.ensures ∙ ap number_of few.0) refl few.1)

pub returns-in-Err-clause-recovery : goal.returns-in-Err-clause-recovery
returns-in-Err-clause-recovery c = let files = c.args.files.now in
    rw c.number.ensures (refused_as files.db.now files.wal.now files.journal.now c.in-Err.status c.in-Err.ensures)

pub returns-in-Err-view_of-clause-recovery : goal.returns-in-Err-view_of-clause-recovery
returns-in-Err-view_of-clause-recovery c = let files = c.args.files.now in
    rw c.view_number.ensures (passed_as files.db.now files.wal.now files.journal.now (view_status c.in-Err-view_of.error) (low_view c.in-Err-view_of.error) c.in_default.ensures)

pub returns-in-Ok-hand_over-clause-recovery : goal.returns-in-Ok-hand_over-clause-recovery
returns-in-Ok-hand_over-clause-recovery c = let files = c.args.files.now in
    passed_as files.db.now files.wal.now files.journal.now c.number-in-Ok-hand_over.result (omega (arith, c.number-in-Ok-hand_over.ensures)) c.in_default.ensures

pub returns-clause-recovery : goal.returns-clause-recovery
returns-clause-recovery c = let files = c.args.files.now in
    let few = c.in-Err-hand_over.ensures.crowded in
    passed_as files.db.now files.wal.now files.journal.now c.number-in-Err-hand_over.result
    (omega (arith, c.number-in-Err-hand_over.ensures ∙ ap number_of few.0)) c.in_default.ensures
