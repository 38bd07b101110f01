use Rattle.rollcore.proofs.Facts.{InFile, Later, Log, Ok, ap, asks_as, asks_broken, asks_err, asks_step, asks_then, broken_refused, during, front_failed, front_may, front_none, front_synced, front_unsynced, goes_broken, inl, passed, refl, rules, settled_refused, ◌∙◌}
use Rattle.rollcore.proofs.opening.break_front.Goals as goal

pub returns-in_err-break_magic : goal.returns-in_err-break_magic
returns-in_err-break_magic g c = during (search rules) (λ word.
    let sound = g.met.D.Disk.sound c.args.disk.now word in
    let by_break_magic = c.break_magic.ensures.disk.holds word in
    record {
      asks = λ size. asks_err c.from_residual.result c.break_magic.result _ _ _ c.in_err-break_magic.was (passed c.from_residual.result _ c.from_residual.ensures.1) (asks_broken 0 c.break_magic.result (g.D.Disk.state c.args.disk.now) (g.D.Disk.state c.break_magic.new.disk) (front_may size) sound by_break_magic.steps by_break_magic.told);
      file = search rules;
      front = λ sectors w durable cold.
          front_failed w (g.D.Disk.state c.args.disk.now) (g.D.Disk.state c.break_magic.new.disk) sound sectors durable cold _ c.break_magic.result c.from_residual.result c.in_err-break_magic.was by_break_magic.steps
          (passed c.from_residual.result _ c.from_residual.ensures.1);
      refused = broken_refused (g.D.Disk.state c.args.disk.now) (g.D.Disk.state c.break_magic.new.disk) c.break_magic.result c.from_residual.result _ c.in_err-break_magic.was by_break_magic.steps (passed c.from_residual.result _ c.from_residual.ensures.1);
    })

pub returns-in_err-sync_log : goal.returns-in_err-sync_log
returns-in_err-sync_log g c = during (search rules) (λ word.
    let sound = g.met.D.Disk.sound c.args.disk.now word in
    let by_break_magic = c.break_magic.ensures.disk.holds word in
    let by_settle_log = c.sync_log.ensures.disk.holds (c.break_magic.ensures.disk.word.0 word) in
    record {
      asks = λ size.
          let first = (asks_broken 0 c.break_magic.result (g.D.Disk.state c.args.disk.now) (g.D.Disk.state c.break_magic.new.disk) (front_may size) sound by_break_magic.steps by_break_magic.told) in
          asks_then _ c.break_magic.result _ _ _ _ c.in_ok-break_magic.was first (asks_err c.from_residual-in_err-sync_log.result c.sync_log.result _ _ _ c.in_err-sync_log.was (passed c.from_residual-in_err-sync_log.result _ c.from_residual-in_err-sync_log.ensures.1) (asks_step Log c.sync_log.result _ _ (inl tt) first.later.sound by_settle_log));
      file = search rules;
      front = λ sectors w durable cold.
          front_unsynced w (g.D.Disk.state c.args.disk.now) (g.D.Disk.state c.break_magic.new.disk) sound sectors durable cold c.break_magic.result (c.in_ok-break_magic.was ∙ ap Ok c.if-branch.true) by_break_magic.steps
          (g.D.Disk.state c.sync_log.new.disk) _ c.sync_log.result c.from_residual-in_err-sync_log.result c.in_err-sync_log.was by_settle_log
          (passed c.from_residual-in_err-sync_log.result _ c.from_residual-in_err-sync_log.ensures.1);
      refused =
          let mid : Later (InFile Log) (g.D.Disk.state c.args.disk.now) (g.D.Disk.state c.break_magic.new.disk) = goes_broken 0 c.break_magic.result (g.D.Disk.state c.args.disk.now) (g.D.Disk.state c.break_magic.new.disk) refl sound by_break_magic.steps in
          settled_refused (g.D.Disk.state c.args.disk.now) (g.D.Disk.state c.break_magic.new.disk) (g.D.Disk.state c.sync_log.new.disk) c.sync_log.result c.from_residual-in_err-sync_log.result _ mid.refused mid.sound c.in_err-sync_log.was
          by_settle_log (passed c.from_residual-in_err-sync_log.result _ c.from_residual-in_err-sync_log.ensures.1);
    })

pub returns-in_ok-sync_log : goal.returns-in_ok-sync_log
returns-in_ok-sync_log g c = during (search rules) (λ word.
    let sound = g.met.D.Disk.sound c.args.disk.now word in
    let by_break_magic = c.break_magic.ensures.disk.holds word in
    let by_settle_log = c.sync_log.ensures.disk.holds (c.break_magic.ensures.disk.word.0 word) in
    record {
      asks = λ size.
          let first = (asks_broken 0 c.break_magic.result (g.D.Disk.state c.args.disk.now) (g.D.Disk.state c.break_magic.new.disk) (front_may size) sound by_break_magic.steps by_break_magic.told) in
          asks_then _ c.break_magic.result _ _ _ _ c.in_ok-break_magic.was first (asks_as _ c.sync_log.result _ _ _ c.in_ok-sync_log.was (asks_step Log c.sync_log.result _ _ (inl tt) first.later.sound by_settle_log));
      file = search rules;
      front = λ sectors w durable cold.
          front_synced w (g.D.Disk.state c.args.disk.now) (g.D.Disk.state c.break_magic.new.disk) sound sectors durable cold c.break_magic.result (c.in_ok-break_magic.was ∙ ap Ok c.if-branch.true) by_break_magic.steps
          (g.D.Disk.state c.sync_log.new.disk) _ c.sync_log.result c.in_ok-sync_log.was by_settle_log;
      refused = search rules;
    })

pub returns-else-branch : goal.returns-else-branch
returns-else-branch g c = during (search rules) (λ word.
    let sound = g.met.D.Disk.sound c.args.disk.now word in
    let by_break_magic = c.break_magic.ensures.disk.holds word in
    record {
      asks = λ size. asks_as _ c.break_magic.result _ _ _ c.in_ok-break_magic.was (asks_broken 0 c.break_magic.result (g.D.Disk.state c.args.disk.now) (g.D.Disk.state c.break_magic.new.disk) (front_may size) sound by_break_magic.steps by_break_magic.told);
      file = search rules;
      front = λ sectors w durable cold. front_none w (g.D.Disk.state c.args.disk.now) (g.D.Disk.state c.break_magic.new.disk) sound sectors durable cold c.break_magic.result (c.in_ok-break_magic.was ∙ ap Ok c.if-branch.false) by_break_magic.steps;
      refused = search rules;
    })
