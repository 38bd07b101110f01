use Rattle.std.proofs.Common.{◌∙◌, length, inl, ap, refl}
use Rattle.sqrescue_c.specs.internal.Plans.{number_in}
use Rattle.sqrescue_c.specs.internal.Statuses.{number_of}
use Rattle.sqrescue_c.proofs.PlannedRecoveries.{planned}
use Rattle.sqrescue_c.proofs.ReportedView.{opened, crowded}
use Rattle.sqrescue_c.proofs.plan.plan_from.Goals as goal

pub returns-in-Ok-hand_over-clause-planned : goal.returns-in-Ok-hand_over-clause-planned
returns-in-Ok-hand_over-clause-planned c = λ _.
    let files = c.args.files.now in
    let out = c.hand_over.new.out in
    let handed = c.in-Ok-hand_over.ensures in
    let log = c.args.in_use.now in
    record {
      recovery = planned _ files.db.now files.wal.now files.journal.now c.in-Ok.view c.in-Ok.ensures.shown log
          (record { view = out; done = 0; recovery = c.recovery_number.result }) c.requires
          (c.recovery_number.ensures ∙ ap (number_in log) c.front.ensures)
          (opened _ files.db.now files.wal.now files.journal.now c.in-Ok.view c.in-Ok.ensures.shown
          out.page_size out.pages out.db.now out.log.now out.places.now
          handed.sizes.0 handed.sizes.1 c.in-Ok.ensures.reads handed.bytes.0 handed.bytes.1 handed.places.0)
          (λ none. handed.places.0 ∙ none);
      none = refl;
    }

pub returns-clause-refused : goal.returns-clause-refused
returns-clause-refused c = λ _.
    let files = c.args.files.now in
    let few = c.in-Err-hand_over.ensures.crowded in
    inl (crowded _ files.db.now files.wal.now files.journal.now c.in-Ok.view c.in-Ok.ensures.shown
    (length c.args.places.now) (length c.in-Ok.view.places.items) c.number-in-Err-hand_over.result
    (c.number-in-Err-hand_over.ensures ∙ ap number_of few.0) refl few.1)
