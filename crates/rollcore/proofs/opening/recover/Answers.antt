use Rattle.rollcore.proofs.Facts.{Device, Log, agrees_by, during, files_err, journal_log, match_err, passed, refused_device, rules, settled, sync_fails, sync_goes, sync_refused, synced_files, unsettled, unwritten_shows, unwritten_syncs}
use Rattle.rollcore.proofs.opening.recover.Goals as goal

pub returns-in_err-sync_log-clause-disk : goal.returns-in_err-sync_log-clause-disk
returns-in_err-sync_log-clause-disk g c = during (search rules) (λ word.
    let sound = g.met.D.Disk.sound c.args.disk.now word in
    let by_settle_log = c.sync_log.ensures.disk.holds word in
    record {
      recovered = λ past found are same fits.
          unsettled past found (g.D.Disk.state c.args.disk.now) fits are _ c.sync_log.result c.from_residual.result (g.D.Disk.state c.sync_log.new.disk) c.in_err-sync_log.was by_settle_log
          (passed c.from_residual.result _ c.from_residual.ensures.1);
      agrees =
          let step = by_settle_log in
          agrees_by (g.D.Disk.state c.args.disk.now) (g.D.Disk.state c.sync_log.new.disk)
          (λ size w d scanning. unwritten_shows journal_log size d w _ (unwritten_syncs journal_log size d w step.0 _ _ scanning step.2));
      synced =
          match_err _ _ _ _ (passed c.from_residual.result _ c.from_residual.ensures.1)
          (sync_fails (g.D.Disk.state c.args.disk.now) (g.D.Disk.state c.sync_log.new.disk) c.sync_log.result by_settle_log _ c.in_err-sync_log.was);
      files = λ db w are_db are.
          files_err c.args.page_size db w c.from_residual.result _ (g.D.Disk.state c.args.disk.now) (g.D.Disk.state c.sync_log.new.disk) (passed c.from_residual.result _ c.from_residual.ensures.1)
          (refused_device c.args.page_size db w _ (g.D.Disk.state c.args.disk.now) (g.D.Disk.state c.sync_log.new.disk) (sync_refused Device Log c.sync_log.result _ _ _ sound c.in_err-sync_log.was by_settle_log));
    })

pub returns-clause-disk : goal.returns-clause-disk
returns-clause-disk g c = during (search rules) (λ word.
    let sound = g.met.D.Disk.sound c.args.disk.now word in
    let by_settle_log = c.sync_log.ensures.disk.holds word in
    let by_recover_synced = c.recover_synced.ensures.disk.holds (c.sync_log.ensures.disk.word.0 word) in
    record {
      recovered = λ past found are same fits.
          let next = c.sync_log.ensures.disk.word.0 word in
          settled past found (g.D.Disk.state c.args.disk.now) fits are _ c.sync_log.result (g.D.Disk.state c.sync_log.new.disk) c.in_ok-sync_log.was by_settle_log c.args.page_size same
          c.recover_synced.result (g.D.Disk.state c.recover_synced.new.disk) (c.recover_synced.ensures.disk.holds next).asks (λ d. (c.recover_synced.ensures.disk.holds next).recovered found.log d);
      agrees =
          let step = by_settle_log in
          agrees_by (g.D.Disk.state c.args.disk.now) (g.D.Disk.state c.recover_synced.new.disk)
          (λ size w d scanning.
          let synced = unwritten_syncs journal_log size d w step.0 _ _ scanning step.2 in
          by_recover_synced.agrees size w d synced.durable (unwritten_shows journal_log size d w _ synced));
      synced =
          sync_goes (g.D.Disk.state c.args.disk.now) (g.D.Disk.state c.sync_log.new.disk) c.sync_log.result by_settle_log c.in_ok-sync_log.was
          (g.D.Disk.state c.recover_synced.new.disk) by_recover_synced.agrees c.recover_synced.result;
      files = λ db w are_db are.
          synced_files _ c.sync_log.result (g.D.Disk.state c.args.disk.now) (g.D.Disk.state c.sync_log.new.disk) sound c.in_ok-sync_log.was by_settle_log c.args.page_size db w c.recover_synced.result (g.D.Disk.state c.recover_synced.new.disk) are_db are
          (λ here there. by_recover_synced.files db w here there);
    })
