use Rattle.rollcore.proofs.Facts.{Asks, EndsBy, IsFit, IsSectorSize, MayReplayWithin, Ok, agrees_by, ap, asks_as, asks_still, asks_then, down_by, down_present, during, ends_narrow, journal_log, narrows_still, passed, plan_replays, present_in, read_cold, read_plans, read_refused, refl, rules, subst, sym, torn_sector, torn_still, unwritten_shows, unwritten_still, within_some, ℕ, ◌∙◌}
use Rattle.rollcore.proofs.disk.ToldRefusals.{told_err}
use Rattle.rollcore.proofs.replaying.replay_synced_within.Goals as goal

pub returns-in_err-plan : goal.returns-in_err-plan
returns-in_err-plan g c = during (search rules) (λ word.
    let by_find_plan = c.find_plan.ensures.disk.holds word in
    record {
      replays = λ db w are_db are.
          read_refused db w (g.D.Disk.state c.args.disk.now) (g.met.D.Disk.sound c.args.disk.now word) are_db are c.args.limits.bytes (g.D.Disk.state c.find_plan.new.disk) by_find_plan.still c.find_plan.result c.from_residual.result _ c.in_err-plan.was (passed c.from_residual.result _ c.from_residual.ensures.1)
          (by_find_plan.found.plan w are);
      agrees = agrees_by (g.D.Disk.state c.args.disk.now) (g.D.Disk.state c.find_plan.new.disk) (λ size w d scanning. unwritten_shows journal_log size d w _ (unwritten_still journal_log size d w _ _ scanning by_find_plan.still));
      lengths = λ w n durable same ends. ends_narrow (g.D.Disk.state c.args.disk.now) (g.D.Disk.state c.find_plan.new.disk) (narrows_still journal_log _ _ by_find_plan.still) n ends;
      asks = λ w are.
          asks_still c.from_residual.result _ _ (g.met.D.Disk.sound c.args.disk.now word) by_find_plan.still
          (told_err c.from_residual.result c.find_plan.result _ (g.D.Disk.state c.args.disk.now) (g.D.Disk.state c.find_plan.new.disk) c.in_err-plan.was (passed c.from_residual.result _ c.from_residual.ensures.1) by_find_plan.told);
    })

pub returns-in-Some : goal.returns-in-Some
returns-in-Some g c = during (search rules) (λ word.
    let sound = g.met.D.Disk.sound c.args.disk.now word in
    let by_find_plan = c.find_plan.ensures.disk.holds word in
    let by_replay_plan = c.replay_plan.ensures.disk.holds (c.find_plan.ensures.disk.word.0 word) in
    let a = g.D.Disk.state c.args.disk.now in
    let m = g.D.Disk.state c.find_plan.new.disk in
    let is = by_find_plan.still in
    record {
      replays = λ db w are_db are.
          let plans = read_plans c.args.limits.bytes (torn_sector a) w c.find_plan.result c.in-Some.plan a m (c.in_ok-plan.was ∙ ap Ok c.in-Some.is) (by_find_plan.found.plan w are) in
          plan_replays db w a sound are_db are c.args.limits.bytes m is c.find_plan.result c.in-Some.plan c.replay_plan.result (g.D.Disk.state c.replay_plan.new.disk) plans.0 plans.2
          (by_replay_plan.replays db w (torn_sector a) (present_in a.db m.db db is.db are_db) (present_in a.log m.log w is.log are) plans.0 plans.1);
      agrees =
          agrees_by a (g.D.Disk.state c.replay_plan.new.disk) (λ size w d scanning.
          let plans = read_plans c.args.limits.bytes (torn_sector a) w c.find_plan.result c.in-Some.plan a m (c.in_ok-plan.was ∙ ap Ok c.in-Some.is) (by_find_plan.found.plan w (down_present w a scanning.durable)) in
          by_replay_plan.shows
          (subst IsSectorSize (sym is.sector) by_find_plan.found.sectors) size w d (unwritten_still journal_log size d w a m scanning is)
          (subst (λ (n : ℕ). IsFit n w) (sym (torn_still a m is)) plans.0) plans.1);
      lengths = λ w n durable same ends.
          let plans = read_plans c.args.limits.bytes (torn_sector a) w c.find_plan.result c.in-Some.plan a m (c.in_ok-plan.was ∙ ap Ok c.in-Some.is) (by_find_plan.found.plan w (down_present w a durable)) in
          subst (λ (k : ℕ). EndsBy k (g.D.Disk.state c.replay_plan.new.disk)) (sym (same plans.0.hot))
          (by_replay_plan.ends
          (subst IsSectorSize (sym is.sector) by_find_plan.found.sectors) w (down_by w a m durable is.log is.tears is.kept is.handed)
          (subst (λ (k : ℕ). IsFit k w) (sym (torn_still a m is)) plans.0) plans.1);
      asks = λ w are.
          let plans = read_plans c.args.limits.bytes (torn_sector a) w c.find_plan.result c.in-Some.plan a m (c.in_ok-plan.was ∙ ap Ok c.in-Some.is) (by_find_plan.found.plan w are) in
          asks_then _ c.find_plan.result _ _ _ _ c.in_ok-plan.was (asks_still c.find_plan.result _ _ (g.met.D.Disk.sound c.args.disk.now word) by_find_plan.still by_find_plan.told)
          (subst (λ (n : ℕ). Asks (MayReplayWithin c.args.limits.bytes n) c.replay_plan.result m (g.D.Disk.state c.replay_plan.new.disk)) plans.1.names.size
          (by_replay_plan.asks c.args.limits.bytes (within_some c.args.limits.bytes c.in_ok-plan.field-0 c.in-Some.plan c.in-Some.is c.in_ok-plan.ensures.within)));
    })

pub returns-in-None : goal.returns-in-None
returns-in-None g c = during (search rules) (λ word.
    let by_find_plan = c.find_plan.ensures.disk.holds word in
    record {
      replays = λ db w are_db are. read_cold db w (g.D.Disk.state c.args.disk.now) (g.met.D.Disk.sound c.args.disk.now word) are_db are c.args.limits.bytes (g.D.Disk.state c.find_plan.new.disk) by_find_plan.still c.find_plan.result _ (c.in_ok-plan.was ∙ ap Ok c.in-None.is) (by_find_plan.found.plan w are) refl refl refl;
      agrees = agrees_by (g.D.Disk.state c.args.disk.now) (g.D.Disk.state c.find_plan.new.disk) (λ size w d scanning. unwritten_shows journal_log size d w _ (unwritten_still journal_log size d w _ _ scanning by_find_plan.still));
      lengths = λ w n durable same ends. ends_narrow (g.D.Disk.state c.args.disk.now) (g.D.Disk.state c.find_plan.new.disk) (narrows_still journal_log _ _ by_find_plan.still) n ends;
      asks = λ w are. asks_as _ c.find_plan.result _ _ _ c.in_ok-plan.was (asks_still c.find_plan.result _ _ (g.met.D.Disk.sound c.args.disk.now word) by_find_plan.still by_find_plan.told);
    })
