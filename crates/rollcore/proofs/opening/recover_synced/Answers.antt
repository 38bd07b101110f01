use Rattle.rollcore.proofs.Facts.{Asks, IsFit, IsSectorSize, MayRecover, MayReplay, Ok, agrees_by, ap, asks_as, asks_err, asks_still, asks_then, asks_wider, break_refuses, broken, byte, cold_alone, cold_leaves, count_opens, count_refuses, down_by, down_present, during, few_some, files_err, hot_leaves, hot_opens, journal_log, misjudged, most_bytes, passed, plan_cold, present_in, present_list, read_plans, read_refuses, recover_may, replay_refuses, replayed, rules, size_refuses, small_some, still_sound, still_then, subst, sym, table, torn_sector, torn_still, unbroken, uncounted, unplanned, unreplayed, unwritten_begins, unwritten_shows, unwritten_still, within_some, ℕ, ◌∙◌}
use Rattle.rollcore.proofs.opening.recover_synced.Goals as goal

pub returns-in_err-plan-clause-disk : goal.returns-in_err-plan-clause-disk
returns-in_err-plan-clause-disk g c = during (search rules) (λ word.
    let sound = g.met.D.Disk.sound c.args.disk.now word in
    let by_find_plan = c.find_plan.ensures.disk.holds word in
    let s = g.D.Disk.state c.args.disk.now in
    let a = g.D.Disk.state c.find_plan.new.disk in
    let is = by_find_plan.still in
    record {
      asks = asks_err c.from_residual.result c.find_plan.result _ _ _ c.in_err-plan.was (passed c.from_residual.result _ c.from_residual.ensures.1) (asks_still c.find_plan.result _ _ (g.met.D.Disk.sound c.args.disk.now word) by_find_plan.still by_find_plan.told);
      recovered = λ w d suits held durable one. unplanned c.args.page_size d w s suits held durable one a is _ c.find_plan.result c.from_residual.result c.in_err-plan.was (passed c.from_residual.result _ c.from_residual.ensures.1) (by_find_plan.found.plan w (down_present w s durable));
      agrees = agrees_by (g.D.Disk.state c.args.disk.now) (g.D.Disk.state c.find_plan.new.disk) (λ size w d scanning. unwritten_shows journal_log size d w _ (unwritten_still journal_log size d w _ _ scanning by_find_plan.still));
      files = λ db w are_db durable.
          let are = down_present w s durable in
          files_err c.args.page_size db w c.from_residual.result _ s (a) (passed c.from_residual.result _ c.from_residual.ensures.1)
          (read_refuses c.args.page_size db w s sound are_db are a is c.find_plan.result _ c.in_err-plan.was (by_find_plan.found.plan w are));
    })

pub returns-in_err-judge_size-in-Some-clause-disk : goal.returns-in_err-judge_size-in-Some-clause-disk
returns-in_err-judge_size-in-Some-clause-disk g c = during (search rules) (λ word.
    let sound = g.met.D.Disk.sound c.args.disk.now word in
    let by_find_plan = c.find_plan.ensures.disk.holds word in
    let s = g.D.Disk.state c.args.disk.now in
    let a = g.D.Disk.state c.find_plan.new.disk in
    let is = by_find_plan.still in
    record {
      asks = asks_as _ c.find_plan.result _ _ _ c.in_ok-plan.was (asks_still c.find_plan.result _ _ (g.met.D.Disk.sound c.args.disk.now word) by_find_plan.still by_find_plan.told);
      recovered = λ w d suits held durable one.
          let plans = read_plans most_bytes (torn_sector s) w c.find_plan.result c.in-Some.plan s a (c.in_ok-plan.was ∙ ap Ok c.in-Some.is) (by_find_plan.found.plan w (down_present w s durable)) in
          misjudged c.args.page_size d w s suits held durable one a is _ c.judge_size.result c.from_residual-in_err-judge_size-in-Some.result plans.0.hot c.in_err-judge_size-in-Some.was (c.judge_size.ensures.judged w plans.1)
          (passed c.from_residual-in_err-judge_size-in-Some.result _ c.from_residual-in_err-judge_size-in-Some.ensures.1);
      agrees = agrees_by (g.D.Disk.state c.args.disk.now) (g.D.Disk.state c.find_plan.new.disk) (λ size w d scanning. unwritten_shows journal_log size d w _ (unwritten_still journal_log size d w _ _ scanning by_find_plan.still));
      files = λ db w are_db durable.
          let are = down_present w s durable in
          let plans = read_plans most_bytes (torn_sector s) w c.find_plan.result c.in-Some.plan s a (c.in_ok-plan.was ∙ ap Ok c.in-Some.is) (by_find_plan.found.plan w are) in
          files_err c.args.page_size db w c.from_residual-in_err-judge_size-in-Some.result _ s (a) (passed c.from_residual-in_err-judge_size-in-Some.result _ c.from_residual-in_err-judge_size-in-Some.ensures.1)
          (size_refuses c.args.page_size db w s sound are_db are a is plans.0 plans.2 c.judge_size.result _ c.in_err-judge_size-in-Some.was (c.judge_size.ensures.judged w plans.1));
    })

pub returns-in_err-replayed-in-Some-clause-disk : goal.returns-in_err-replayed-in-Some-clause-disk
returns-in_err-replayed-in-Some-clause-disk g c = during (search rules) (λ word.
    let sound = g.met.D.Disk.sound c.args.disk.now word in
    let by_find_plan = c.find_plan.ensures.disk.holds word in
    let s = g.D.Disk.state c.args.disk.now in
    let a = g.D.Disk.state c.find_plan.new.disk in
    let is = by_find_plan.still in
    let next = c.find_plan.ensures.disk.word.0 word in
    let after = still_sound s a sound is in
    record {
      asks =
          asks_then _ c.find_plan.result _ _ _ _ c.in_ok-plan.was (asks_still c.find_plan.result _ _ (g.met.D.Disk.sound c.args.disk.now word) by_find_plan.still by_find_plan.told)
          (asks_err c.from_residual-in_err-replayed-in-Some.result c.replay_plan.result _ _ _ c.in_err-replayed-in-Some.was (passed c.from_residual-in_err-replayed-in-Some.result _ c.from_residual-in_err-replayed-in-Some.ensures.1)
          (asks_wider c.replay_plan.result _ _ (recover_may c.args.page_size) (subst (λ (n : ℕ). Asks (MayReplay n) c.replay_plan.result (g.D.Disk.state c.find_plan.new.disk) (g.D.Disk.state c.replay_plan.new.disk)) c.in_ok-judge_size-in-Some.ensures.same ((c.replay_plan.ensures.disk.holds (c.find_plan.ensures.disk.word.0 word)).asks most_bytes (within_some most_bytes c.in_ok-plan.field-0 c.in-Some.plan c.in-Some.is c.in_ok-plan.ensures.within)))));
      recovered = λ w d suits held durable one.
          let plans = read_plans most_bytes (torn_sector s) w c.find_plan.result c.in-Some.plan s a (c.in_ok-plan.was ∙ ap Ok c.in-Some.is) (by_find_plan.found.plan w (down_present w s durable)) in
          let db = table s.db.len (byte s.db) in
          let fit = subst (λ (n : ℕ). IsFit n w) (sym (torn_still s a is)) plans.0 in
          let sectors = subst IsSectorSize (sym is.sector) by_find_plan.found.sectors in
          let alone = (c.replay_plan.ensures.disk.holds next).shows sectors c.args.page_size w d (unwritten_still journal_log c.args.page_size d w s a (unwritten_begins journal_log c.args.page_size d w s durable one.alone) is) fit plans.1 in
          let ends = (c.replay_plan.ensures.disk.holds next).ends sectors w (down_by w s a durable is.log is.tears is.kept is.handed) fit plans.1 in
          let rolled = (c.replay_plan.ensures.disk.holds next).replays db w (torn_sector s) (present_in s.db a.db db is.db (present_list s.db)) (present_in s.log a.log w is.log (down_present w s durable)) plans.0 plans.1 in
          unreplayed c.args.page_size d w s suits held durable one a is plans.0.hot db (g.D.Disk.state c.replay_plan.new.disk) alone ends _ c.replay_plan.result c.from_residual-in_err-replayed-in-Some.result c.in_err-replayed-in-Some.was rolled
          (passed c.from_residual-in_err-replayed-in-Some.result _ c.from_residual-in_err-replayed-in-Some.ensures.1);
      agrees =
          agrees_by s (g.D.Disk.state c.replay_plan.new.disk) (λ size w d scanning.
          let plans = read_plans most_bytes (torn_sector s) w c.find_plan.result c.in-Some.plan s a (c.in_ok-plan.was ∙ ap Ok c.in-Some.is) (by_find_plan.found.plan w (down_present w s scanning.durable)) in
          (c.replay_plan.ensures.disk.holds next).shows (subst IsSectorSize (sym is.sector) by_find_plan.found.sectors) size w d (unwritten_still journal_log size d w s a scanning is)
          (subst (λ (n : ℕ). IsFit n w) (sym (torn_still s a is)) plans.0) plans.1);
      files = λ db w are_db durable.
          let are = down_present w s durable in
          let plans = read_plans most_bytes (torn_sector s) w c.find_plan.result c.in-Some.plan s a (c.in_ok-plan.was ∙ ap Ok c.in-Some.is) (by_find_plan.found.plan w are) in
          files_err c.args.page_size db w c.from_residual-in_err-replayed-in-Some.result _ s (g.D.Disk.state c.replay_plan.new.disk) (passed c.from_residual-in_err-replayed-in-Some.result _ c.from_residual-in_err-replayed-in-Some.ensures.1)
          (replay_refuses c.args.page_size db w s sound are_db are a is (g.D.Disk.state c.replay_plan.new.disk) c.replay_plan.result _ c.in_err-replayed-in-Some.was ((c.replay_plan.ensures.disk.holds next).replays db w (torn_sector s) (present_in s.db a.db db is.db are_db) (present_in s.log a.log w is.log are) plans.0 plans.1));
    })

pub returns-in_ok-replayed-in-Some-clause-disk : goal.returns-in_ok-replayed-in-Some-clause-disk
returns-in_ok-replayed-in-Some-clause-disk g c = during (search rules) (λ word.
    let sound = g.met.D.Disk.sound c.args.disk.now word in
    let by_find_plan = c.find_plan.ensures.disk.holds word in
    let by_replay_plan = c.replay_plan.ensures.disk.holds (c.find_plan.ensures.disk.word.0 word) in
    let s = g.D.Disk.state c.args.disk.now in
    let a = g.D.Disk.state c.find_plan.new.disk in
    let is = by_find_plan.still in
    let next = c.find_plan.ensures.disk.word.0 word in
    let after = still_sound s a sound is in
    record {
      asks =
          asks_then _ c.find_plan.result _ _ _ _ c.in_ok-plan.was (asks_still c.find_plan.result _ _ (g.met.D.Disk.sound c.args.disk.now word) by_find_plan.still by_find_plan.told)
          (asks_as _ c.replay_plan.result _ _ _ c.in_ok-replayed-in-Some.was
          (asks_wider c.replay_plan.result _ _ (recover_may c.args.page_size) (subst (λ (n : ℕ). Asks (MayReplay n) c.replay_plan.result (g.D.Disk.state c.find_plan.new.disk) (g.D.Disk.state c.replay_plan.new.disk)) c.in_ok-judge_size-in-Some.ensures.same
          (by_replay_plan.asks most_bytes (within_some most_bytes c.in_ok-plan.field-0 c.in-Some.plan c.in-Some.is c.in_ok-plan.ensures.within)))));
      recovered = λ w d suits held durable one.
          let plans = read_plans most_bytes (torn_sector s) w c.find_plan.result c.in-Some.plan s a (c.in_ok-plan.was ∙ ap Ok c.in-Some.is) (by_find_plan.found.plan w (down_present w s durable)) in
          let db = table s.db.len (byte s.db) in
          let fit = subst (λ (n : ℕ). IsFit n w) (sym (torn_still s a is)) plans.0 in
          let sectors = subst IsSectorSize (sym is.sector) by_find_plan.found.sectors in
          let alone = (c.replay_plan.ensures.disk.holds next).shows sectors c.args.page_size w d (unwritten_still journal_log c.args.page_size d w s a (unwritten_begins journal_log c.args.page_size d w s durable one.alone) is) fit plans.1 in
          let ends = (c.replay_plan.ensures.disk.holds next).ends sectors w (down_by w s a durable is.log is.tears is.kept is.handed) fit plans.1 in
          let rolled = (c.replay_plan.ensures.disk.holds next).replays db w (torn_sector s) (present_in s.db a.db db is.db (present_list s.db)) (present_in s.log a.log w is.log (down_present w s durable)) plans.0 plans.1 in
          replayed c.args.page_size d w s suits held durable one a is plans.0.hot db (g.D.Disk.state c.replay_plan.new.disk) alone ends c.in_ok-replayed-in-Some.replayed c.replay_plan.result c.in_ok-replayed-in-Some.was rolled;
      agrees =
          agrees_by s (g.D.Disk.state c.replay_plan.new.disk) (λ size w d scanning.
          let plans = read_plans most_bytes (torn_sector s) w c.find_plan.result c.in-Some.plan s a (c.in_ok-plan.was ∙ ap Ok c.in-Some.is) (by_find_plan.found.plan w (down_present w s scanning.durable)) in
          (c.replay_plan.ensures.disk.holds next).shows (subst IsSectorSize (sym is.sector) by_find_plan.found.sectors) size w d (unwritten_still journal_log size d w s a scanning is)
          (subst (λ (n : ℕ). IsFit n w) (sym (torn_still s a is)) plans.0) plans.1);
      files = λ db w are_db durable.
          let are = down_present w s durable in
          let plans = read_plans most_bytes (torn_sector s) w c.find_plan.result c.in-Some.plan s a (c.in_ok-plan.was ∙ ap Ok c.in-Some.is) (by_find_plan.found.plan w are) in
          let size = c.in_ok-judge_size-in-Some.ensures.judged w plans.1 in
          let rolled = by_replay_plan.replays db w (torn_sector s) (present_in s.db a.db db is.db are_db) (present_in s.log a.log w is.log are) plans.0 plans.1 in (
            hot_opens c.args.page_size db w s sound are_db are plans.0 plans.2 size.0 size.1,
            hot_leaves db w c.replay_plan.result c.in_ok-replayed-in-Some.replayed s a (g.D.Disk.state c.replay_plan.new.disk) plans.0.hot c.in_ok-replayed-in-Some.was rolled,
          );
    })

pub returns-in_ok-replayed-in-Some-clause-few : goal.returns-in_ok-replayed-in-Some-clause-few
returns-in_ok-replayed-in-Some-clause-few g c = few_some c.in_ok-plan.field-0 c.in-Some.plan c.in_ok-replayed-in-Some.replayed.size c.args.page_size c.in-Some.is c.in_ok-plan.ensures.within c.in_ok-judge_size-in-Some.ensures.same c.in_ok-replayed-in-Some.ensures.size

pub returns-in_err-pages-in-None-clause-disk : goal.returns-in_err-pages-in-None-clause-disk
returns-in_err-pages-in-None-clause-disk g c = during (search rules) (λ word.
    let sound = g.met.D.Disk.sound c.args.disk.now word in
    let by_find_plan = c.find_plan.ensures.disk.holds word in
    let next = c.find_plan.ensures.disk.word.0 word in
    let s = g.D.Disk.state c.args.disk.now in
    let a = g.D.Disk.state c.find_plan.new.disk in
    let is = by_find_plan.still in
    let after = still_sound s a sound is in
    let b = g.D.Disk.state c.count_pages.new.disk in
    let then = (c.count_pages.ensures.disk.holds next).still in
    record {
      asks =
          let first : Asks (MayRecover c.args.page_size) c.find_plan.result (g.D.Disk.state c.args.disk.now) (g.D.Disk.state c.find_plan.new.disk) = asks_still c.find_plan.result _ _ (g.met.D.Disk.sound c.args.disk.now word) by_find_plan.still by_find_plan.told in
          let counted : Asks (MayRecover c.args.page_size) c.count_pages.result (g.D.Disk.state c.find_plan.new.disk) (g.D.Disk.state c.count_pages.new.disk) =
          asks_still c.count_pages.result _ _ first.later.sound (c.count_pages.ensures.disk.holds next).still (c.count_pages.ensures.disk.holds next).told in
          asks_then _ c.find_plan.result _ _ _ _ c.in_ok-plan.was first (asks_err c.from_residual-in_err-pages-in-None.result c.count_pages.result _ _ _ c.in_err-pages-in-None.was (passed c.from_residual-in_err-pages-in-None.result _ c.from_residual-in_err-pages-in-None.ensures.1) counted);
      recovered = λ w d suits held durable one.
          let cold = plan_cold most_bytes (torn_sector s) w c.find_plan.result s a (c.in_ok-plan.was ∙ ap Ok c.in-None.is) (by_find_plan.found.plan w (down_present w s durable)) in
          uncounted c.args.page_size d w s suits held durable one a is cold b then _ c.count_pages.result c.from_residual-in_err-pages-in-None.result c.in_err-pages-in-None.was (c.count_pages.ensures.disk.holds next).found
          (passed c.from_residual-in_err-pages-in-None.result _ c.from_residual-in_err-pages-in-None.ensures.1);
      agrees = agrees_by s b (λ size w d scanning. unwritten_shows journal_log size d w _ (unwritten_still journal_log size d w _ _ scanning (still_then s a b is then)));
      files = λ db w are_db durable.
          let are = down_present w s durable in
          let cold = plan_cold most_bytes (torn_sector s) w c.find_plan.result s a (c.in_ok-plan.was ∙ ap Ok c.in-None.is) (by_find_plan.found.plan w are) in
          files_err c.args.page_size db w c.from_residual-in_err-pages-in-None.result _ s (b) (passed c.from_residual-in_err-pages-in-None.result _ c.from_residual-in_err-pages-in-None.ensures.1)
          (count_refuses c.args.page_size db w s sound are_db are a is cold b (still_then s a b is then) c.count_pages.result _ c.in_err-pages-in-None.was (c.count_pages.ensures.disk.holds next).found);
    })

pub returns-in_err-break_front-in-None-clause-disk : goal.returns-in_err-break_front-in-None-clause-disk
returns-in_err-break_front-in-None-clause-disk g c = during (search rules) (λ word.
    let sound = g.met.D.Disk.sound c.args.disk.now word in
    let by_find_plan = c.find_plan.ensures.disk.holds word in
    let next = c.find_plan.ensures.disk.word.0 word in
    let s = g.D.Disk.state c.args.disk.now in
    let a = g.D.Disk.state c.find_plan.new.disk in
    let is = by_find_plan.still in
    let after = still_sound s a sound is in
    let b = g.D.Disk.state c.count_pages.new.disk in
    let then = (c.count_pages.ensures.disk.holds next).still in
    let last = c.count_pages.ensures.disk.word.0 next in
    let sound_b = still_sound a b after then in
    let goes = ((c.break_front.ensures.holds last).asks 0).later in
    let same = (c.break_front.ensures.holds last).file in
    let sectors = subst IsSectorSize (sym is.sector ∙ sym then.sector) by_find_plan.found.sectors in
    let all = still_then s a b is then in
    record {
      asks =
          let first : Asks (MayRecover c.args.page_size) c.find_plan.result (g.D.Disk.state c.args.disk.now) (g.D.Disk.state c.find_plan.new.disk) = asks_still c.find_plan.result _ _ (g.met.D.Disk.sound c.args.disk.now word) by_find_plan.still by_find_plan.told in
          let counted : Asks (MayRecover c.args.page_size) c.count_pages.result (g.D.Disk.state c.find_plan.new.disk) (g.D.Disk.state c.count_pages.new.disk) =
          asks_still c.count_pages.result _ _ first.later.sound (c.count_pages.ensures.disk.holds next).still (c.count_pages.ensures.disk.holds next).told in
          asks_then _ c.find_plan.result _ _ _ _ c.in_ok-plan.was first (asks_then _ c.count_pages.result _ _ _ _ c.in_ok-pages-in-None.was counted
          (asks_err c.from_residual-in_err-break_front-in-None.result c.break_front.result _ _ _ c.in_err-break_front-in-None.was (passed c.from_residual-in_err-break_front-in-None.result _ c.from_residual-in_err-break_front-in-None.ensures.1) ((c.break_front.ensures.holds (c.count_pages.ensures.disk.word.0 next)).asks c.args.page_size)));
      recovered = λ w d suits held durable one.
          let cold = plan_cold most_bytes (torn_sector s) w c.find_plan.result s a (c.in_ok-plan.was ∙ ap Ok c.in-None.is) (by_find_plan.found.plan w (down_present w s durable)) in
          let front = (c.break_front.ensures.holds last).front sectors w (down_by w s b durable all.log all.tears all.kept all.handed) cold in
          unbroken c.args.page_size d w s suits held durable one a is cold b then (g.D.Disk.state c.break_front.new.disk) goes.sound goes.sector goes.tears same _ c.break_front.result c.from_residual-in_err-break_front-in-None.result c.in_err-break_front-in-None.was front
          (passed c.from_residual-in_err-break_front-in-None.result _ c.from_residual-in_err-break_front-in-None.ensures.1);
      agrees =
          agrees_by s (g.D.Disk.state c.break_front.new.disk) (λ size w d scanning.
          let here = unwritten_still journal_log size d w s b scanning all in
          let cold = plan_cold most_bytes (torn_sector s) w c.find_plan.result s a (c.in_ok-plan.was ∙ ap Ok c.in-None.is) (by_find_plan.found.plan w (down_present w s scanning.durable)) in
          let front = (c.break_front.ensures.holds last).front sectors w here.durable cold in
          cold_alone size d w b (g.D.Disk.state c.break_front.new.disk) here.durable cold goes.sound goes.sector goes.tears same front.cold here.shows);
      files = λ db w are_db durable.
          let are = down_present w s durable in
          files_err c.args.page_size db w c.from_residual-in_err-break_front-in-None.result _ s (g.D.Disk.state c.break_front.new.disk) (passed c.from_residual-in_err-break_front-in-None.result _ c.from_residual-in_err-break_front-in-None.ensures.1)
          (break_refuses c.args.page_size db w s sound are_db are a is b (g.D.Disk.state c.break_front.new.disk) (still_then s a b is then) c.break_front.result _ c.in_err-break_front-in-None.was (c.break_front.ensures.holds (c.count_pages.ensures.disk.word.0 next)).refused);
    })

pub returns-in_ok-break_front-in-None-clause-disk : goal.returns-in_ok-break_front-in-None-clause-disk
returns-in_ok-break_front-in-None-clause-disk g c = during (search rules) (λ word.
    let sound = g.met.D.Disk.sound c.args.disk.now word in
    let by_find_plan = c.find_plan.ensures.disk.holds word in
    let next = c.find_plan.ensures.disk.word.0 word in
    let s = g.D.Disk.state c.args.disk.now in
    let a = g.D.Disk.state c.find_plan.new.disk in
    let is = by_find_plan.still in
    let after = still_sound s a sound is in
    let b = g.D.Disk.state c.count_pages.new.disk in
    let then = (c.count_pages.ensures.disk.holds next).still in
    let last = c.count_pages.ensures.disk.word.0 next in
    let sound_b = still_sound a b after then in
    let goes = ((c.break_front.ensures.holds last).asks 0).later in
    let same = (c.break_front.ensures.holds last).file in
    let sectors = subst IsSectorSize (sym is.sector ∙ sym then.sector) by_find_plan.found.sectors in
    let all = still_then s a b is then in
    record {
      asks =
          let first : Asks (MayRecover c.args.page_size) c.find_plan.result (g.D.Disk.state c.args.disk.now) (g.D.Disk.state c.find_plan.new.disk) = asks_still c.find_plan.result _ _ (g.met.D.Disk.sound c.args.disk.now word) by_find_plan.still by_find_plan.told in
          let counted : Asks (MayRecover c.args.page_size) c.count_pages.result (g.D.Disk.state c.find_plan.new.disk) (g.D.Disk.state c.count_pages.new.disk) =
          asks_still c.count_pages.result _ _ first.later.sound (c.count_pages.ensures.disk.holds next).still (c.count_pages.ensures.disk.holds next).told in
          asks_then _ c.find_plan.result _ _ _ _ c.in_ok-plan.was first (asks_then _ c.count_pages.result _ _ _ _ c.in_ok-pages-in-None.was counted (asks_as _ c.break_front.result _ _ _ c.in_ok-break_front-in-None.was ((c.break_front.ensures.holds (c.count_pages.ensures.disk.word.0 next)).asks c.args.page_size)));
      recovered = λ w d suits held durable one.
          let cold = plan_cold most_bytes (torn_sector s) w c.find_plan.result s a (c.in_ok-plan.was ∙ ap Ok c.in-None.is) (by_find_plan.found.plan w (down_present w s durable)) in
          let front = (c.break_front.ensures.holds last).front sectors w (down_by w s b durable all.log all.tears all.kept all.handed) cold in
          broken c.args.page_size d w s suits held durable one a is cold b then (g.D.Disk.state c.break_front.new.disk) goes.sound goes.sector goes.tears same _ c.in_ok-pages-in-None.pages c.break_front.result c.count_pages.result
          c.in_ok-break_front-in-None.was front c.in_ok-pages-in-None.was (c.count_pages.ensures.disk.holds next).found;
      agrees =
          agrees_by s (g.D.Disk.state c.break_front.new.disk) (λ size w d scanning.
          let here = unwritten_still journal_log size d w s b scanning all in
          let cold = plan_cold most_bytes (torn_sector s) w c.find_plan.result s a (c.in_ok-plan.was ∙ ap Ok c.in-None.is) (by_find_plan.found.plan w (down_present w s scanning.durable)) in
          let front = (c.break_front.ensures.holds last).front sectors w here.durable cold in
          cold_alone size d w b (g.D.Disk.state c.break_front.new.disk) here.durable cold goes.sound goes.sector goes.tears same front.cold here.shows);
      files = λ db w are_db durable.
          let are = down_present w s durable in
          let cold = plan_cold most_bytes (torn_sector s) w c.find_plan.result s a (c.in_ok-plan.was ∙ ap Ok c.in-None.is) (by_find_plan.found.plan w are) in
          let front = (c.break_front.ensures.holds last).front sectors w (down_by w s b durable all.log all.tears all.kept all.handed) cold in (
            count_opens c.args.page_size db w s sound are_db are a is cold b all c.count_pages.result _ c.in_ok-pages-in-None.was (c.count_pages.ensures.disk.holds next).found,
            cold_leaves db w c.break_front.result _ s b (g.D.Disk.state c.break_front.new.disk) cold c.in_ok-break_front-in-None.was ((c.break_front.ensures.holds last).file ∙ all.db) front,
          );
    })

pub replay_plan-requires : goal.replay_plan-requires
replay_plan-requires g c = small_some c.in_ok-plan.field-0 c.in-Some.plan c.in-Some.is c.in_ok-plan.ensures.small
