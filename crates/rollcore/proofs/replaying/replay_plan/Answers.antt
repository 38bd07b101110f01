use Rattle.rollcore.proofs.Facts.{Asks, Device, EndsBy, IsSectorSize, MayReplayWithin, asks_as, asks_err, asks_then, byte, copy_done, down_by, down_present, during, ends_hot, fit_begins, fit_named, named_by, pages_at, passed, planned, present_in, present_list, read_count, refl, rolled_copy, rolled_done, rolled_end, rolled_length, rolled_present, rules, subst, sym, table, writing_at, writing_shows, ℕ, ◌*◌, ◌≡◌, ◌≤◌}
use Rattle.rollcore.proofs.replaying.replay_plan.Goals as goal

pub returns-in_err-copy_records-clause-disk : goal.returns-in_err-copy_records-clause-disk
returns-in_err-copy_records-clause-disk g c = during (search rules) (λ word.
    let sound = g.met.D.Disk.sound c.args.disk.now word in
    let by_copy_records = c.copy_records.ensures.holds word in
    let e : c.get-page.result ≡ c.args.plan.header.page_size = c.get-page.ensures.value in
    record {
      asks = λ most few.
          let within = subst (λ (n : ℕ). c.args.plan.header.first_size * n ≤ most) (sym e) few in
          let first = subst (λ (n : ℕ). Asks (MayReplayWithin most n) c.copy_records.result (g.D.Disk.state c.args.disk.now) (g.D.Disk.state c.copy_records.new.disk)) e (by_copy_records.asks most within) in
          asks_err c.from_residual.result c.copy_records.result _ _ _ c.in_err-copy_records.was (passed c.from_residual.result _ c.from_residual.ensures.1) first;
      replays = λ db w torn are_db are fit is.
          let p = planned w db torn c.get-page.result c.args.plan c.requires.few fit is e in
          rolled_copy db w (g.D.Disk.state c.args.disk.now) c.get-page.result p.pages c.copy_records.result c.from_residual.result _ _ c.in_err-copy_records.was (passed c.from_residual.result _ c.from_residual.ensures.1)
          (by_copy_records.pages db w p.pages are_db are is.read fit.hot p.same p.first p.within p.rolled);
      shows = λ sectors size w d scanning fit is.
          let p = planned w w _ c.get-page.result c.args.plan c.requires.few fit is e in
          writing_shows size w d _ (writing_at c.get-page.result size w d _ _ p.same
          (by_copy_records.writing w d (down_present w _ scanning.durable) is.read p.within p.first)
          (fit_begins size w d _ sound sectors fit scanning));
      ends = λ sectors w durable fit is.
          let a = g.D.Disk.state c.args.disk.now in
          let b = g.D.Disk.state c.copy_records.new.disk in
          let log = by_copy_records.log in
          ends_hot w b (down_by w a b durable log.log log.tears log.kept log.handed) _ fit.hot (named_by w a b log.sector log.tears (fit_named w a fit));
    })

pub returns-in_err-finish-clause-disk : goal.returns-in_err-finish-clause-disk
returns-in_err-finish-clause-disk g c = during (search rules) (λ word.
    let sound = g.met.D.Disk.sound c.args.disk.now word in
    let by_copy_records = c.copy_records.ensures.holds word in
    let by_finish = c.finish.ensures.disk.holds (c.copy_records.ensures.word.0 word) in
    let e : c.get-page.result ≡ c.args.plan.header.page_size = c.get-page.ensures.value in
    let log = by_copy_records.log in
    record {
      asks = λ most few.
          let within = subst (λ (n : ℕ). c.args.plan.header.first_size * n ≤ most) (sym e) few in
          let first = subst (λ (n : ℕ). Asks (MayReplayWithin most n) c.copy_records.result (g.D.Disk.state c.args.disk.now) (g.D.Disk.state c.copy_records.new.disk)) e (by_copy_records.asks most within) in
          asks_then _ c.copy_records.result _ _ _ _ c.in_ok-copy_records.was first
          (asks_err c.from_residual-in_err-finish.result c.finish.result _ _ _ c.in_err-finish.was (passed c.from_residual-in_err-finish.result _ c.from_residual-in_err-finish.ensures.1) (by_finish.asks most c.args.plan.header.page_size));
      replays = λ db w torn are_db are fit is.
          rolled_end db w (g.D.Disk.state c.args.disk.now) c.finish.result c.from_residual-in_err-finish.result _ (g.D.Disk.state c.copy_records.new.disk) _ log.refused c.in_err-finish.was (passed c.from_residual-in_err-finish.result _ c.from_residual-in_err-finish.ensures.1)
          by_finish.ends;
      shows = λ sectors size w d scanning fit is.
          let p = planned w w _ c.get-page.result c.args.plan c.requires.few fit is e in
          let s = g.D.Disk.state c.args.disk.now in
          let begun = fit_begins size w d s sound sectors fit scanning in
          let are = down_present w s scanning.durable in
          let now = table s.db.len (byte s.db) in
          by_finish.shows size w d
          (writing_at c.get-page.result size w d _ _ p.same (by_copy_records.writing w d are is.read p.within p.first) begun)
          (pages_at c.get-page.result size w d s (g.D.Disk.state c.copy_records.new.disk) p.same begun (copy_done Device c.get-page.result d c.copy_records.result _ _ _ c.in_ok-copy_records.was
          (by_copy_records.pages now w d (present_list s.db) are is.read fit.hot p.same p.first p.within (rolled_present size w d s fit.hot scanning))));
      ends = λ sectors w durable fit is.
          let a = g.D.Disk.state c.args.disk.now in
          let b = g.D.Disk.state c.copy_records.new.disk in
          let now = table a.db.len (byte a.db) in
          let p = planned w now _ c.get-page.result c.args.plan c.requires.few fit is e in
          let pages = copy_done Device c.get-page.result p.pages c.copy_records.result _ _ _ c.in_ok-copy_records.was
          (by_copy_records.pages now w p.pages (present_list a.db) (down_present w a durable) is.read fit.hot p.same p.first p.within p.rolled) in
          subst (λ (n : ℕ). EndsBy n (g.D.Disk.state c.finish.new.disk)) (rolled_length w now p.pages c.get-page.result b pages p.rolled p.same)
          (by_finish.lengths (subst IsSectorSize (sym log.sector) sectors) w (down_by w a b durable log.log log.tears log.kept log.handed) fit.hot (named_by w a b log.sector log.tears (fit_named w a fit)));
    })

pub returns-clause-disk : goal.returns-clause-disk
returns-clause-disk g c = during (search rules) (λ word.
    let sound = g.met.D.Disk.sound c.args.disk.now word in
    let by_copy_records = c.copy_records.ensures.holds word in
    let by_finish = c.finish.ensures.disk.holds (c.copy_records.ensures.word.0 word) in
    let e : c.get-page.result ≡ c.args.plan.header.page_size = c.get-page.ensures.value in
    let log = by_copy_records.log in
    record {
      asks = λ most few.
          let within = subst (λ (n : ℕ). c.args.plan.header.first_size * n ≤ most) (sym e) few in
          let first = subst (λ (n : ℕ). Asks (MayReplayWithin most n) c.copy_records.result (g.D.Disk.state c.args.disk.now) (g.D.Disk.state c.copy_records.new.disk)) e (by_copy_records.asks most within) in
          asks_then _ c.copy_records.result _ _ _ _ c.in_ok-copy_records.was first (asks_as _ c.finish.result _ _ _ c.in_ok-finish.was (by_finish.asks most c.args.plan.header.page_size));
      replays = λ db w torn are_db are fit is.
          let p = planned w db torn c.get-page.result c.args.plan c.requires.few fit is e in
          rolled_done db w (g.D.Disk.state c.args.disk.now) c.get-page.result p.pages c.finish.result _ _ (g.D.Disk.state c.copy_records.new.disk) _ fit.hot p.rolled p.sized
          (copy_done Device c.get-page.result p.pages c.copy_records.result _ _ _ c.in_ok-copy_records.was
          (by_copy_records.pages db w p.pages are_db are is.read fit.hot p.same p.first p.within p.rolled))
          (present_in _ _ w log.log are) c.in_ok-finish.was by_finish.ends refl (read_count w c.args.plan.scan is.read c.count.result c.count.ensures) is.names.first_size;
      shows = λ sectors size w d scanning fit is.
          let p = planned w w _ c.get-page.result c.args.plan c.requires.few fit is e in
          let s = g.D.Disk.state c.args.disk.now in
          let begun = fit_begins size w d s sound sectors fit scanning in
          let are = down_present w s scanning.durable in
          let now = table s.db.len (byte s.db) in
          by_finish.shows size w d
          (writing_at c.get-page.result size w d _ _ p.same (by_copy_records.writing w d are is.read p.within p.first) begun)
          (pages_at c.get-page.result size w d s (g.D.Disk.state c.copy_records.new.disk) p.same begun (copy_done Device c.get-page.result d c.copy_records.result _ _ _ c.in_ok-copy_records.was
          (by_copy_records.pages now w d (present_list s.db) are is.read fit.hot p.same p.first p.within (rolled_present size w d s fit.hot scanning))));
      ends = λ sectors w durable fit is.
          let a = g.D.Disk.state c.args.disk.now in
          let b = g.D.Disk.state c.copy_records.new.disk in
          let now = table a.db.len (byte a.db) in
          let p = planned w now _ c.get-page.result c.args.plan c.requires.few fit is e in
          let pages = copy_done Device c.get-page.result p.pages c.copy_records.result _ _ _ c.in_ok-copy_records.was
          (by_copy_records.pages now w p.pages (present_list a.db) (down_present w a durable) is.read fit.hot p.same p.first p.within p.rolled) in
          subst (λ (n : ℕ). EndsBy n (g.D.Disk.state c.finish.new.disk)) (rolled_length w now p.pages c.get-page.result b pages p.rolled p.same)
          (by_finish.lengths (subst IsSectorSize (sym log.sector) sectors) w (down_by w a b durable log.log log.tears log.kept log.handed) fit.hot (named_by w a b log.sector log.tears (fit_named w a fit)));
    })
