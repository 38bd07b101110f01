use Rattle.rollcore.proofs.Facts.{Device, Later, Log, MayReplayWithin, Ok, agrees_by, asks_device, asks_done, asks_then, down_syncs, during, ends_resynced, goes_on, journal_log, later_sync, passed, refl, replay_after, rules, stays, sync_unreplayed, synced_present, unwritten_shows, unwritten_syncs}
use Rattle.sqval.specs.Bytes.{word as word_of}
use Rattle.rollcore.proofs.replaying.replay_within.Goals as goal

pub returns-in_err-sync : goal.returns-in_err-sync
returns-in_err-sync g c = during (search rules) (λ word.
    record {
      replays = λ db w are_db are. sync_unreplayed c.args.limits.bytes db w c.sync.result _ c.from_residual.result _ _ c.in_err-sync.was (passed c.from_residual.result Device c.from_residual.ensures.1) (c.sync.ensures.state word);
      agrees =
          agrees_by (g.D.Disk.state c.args.disk.now) (g.D.Disk.state c.sync.new.self)
          (λ size w d scanning. unwritten_shows journal_log size d w _ (unwritten_syncs journal_log size d w c.sync.result _ _ scanning (c.sync.ensures.state word)));
      lengths = λ w n durable same ends. ends_resynced n w c.sync.result (g.D.Disk.state c.args.disk.now) (g.D.Disk.state c.sync.new.self) durable (c.sync.ensures.state word) ends;
      synced =
          record {
            called = c.sync.result;
            mid = g.D.Disk.state c.sync.new.self;
            sync = c.sync.ensures.state word;
            rest = stays Device _ c.sync.result _ c.from_residual.result (g.D.Disk.state c.sync.new.self) c.in_err-sync.was (passed c.from_residual.result Device c.from_residual.ensures.1);
          };
      asks = λ w are. asks_device c.from_residual.result _ _ (passed c.from_residual.result Device c.from_residual.ensures.1) (later_sync Log c.sync.result _ _ tt (g.met.D.Disk.sound c.args.disk.now word) (c.sync.ensures.state word));
    })

pub returns : goal.returns
returns g c = during (search rules) (λ word.
    let by_replay_synced = c.replay_synced_within.ensures.holds (c.sync.ensures.word.0 word) in
    record {
      replays = λ db w are_db are.
          replay_after db w (g.D.Disk.state c.args.disk.now) (g.D.Disk.state c.sync.new.self) (g.D.Disk.state c.replay_synced_within.new.disk) (c.in_ok-sync.ensures.state word) c.args.limits.bytes c.replay_synced_within.result are_db are
          (λ here there. by_replay_synced.replays db w here there);
      agrees =
          agrees_by (g.D.Disk.state c.args.disk.now) (g.D.Disk.state c.replay_synced_within.new.disk)
          (λ size w d scanning.
          let synced = unwritten_syncs journal_log size d w c.sync.result _ _ scanning (c.sync.ensures.state word) in
          by_replay_synced.agrees size w d synced.durable (unwritten_shows journal_log size d w _ synced));
      lengths = λ w n durable same ends.
          by_replay_synced.lengths w n (down_syncs w Log c.sync.result _ _ durable (c.sync.ensures.state word)) same
          (ends_resynced n w c.sync.result (g.D.Disk.state c.args.disk.now) (g.D.Disk.state c.sync.new.self) durable (c.sync.ensures.state word) ends);
      synced =
          record {
            called = c.sync.result;
            mid = g.D.Disk.state c.sync.new.self;
            sync = c.sync.ensures.state word;
            rest = goes_on Device _ c.sync.result _ c.replay_synced_within.result (g.D.Disk.state c.sync.new.self) (g.D.Disk.state c.replay_synced_within.new.disk) c.in_ok-sync.was (by_replay_synced.replays, by_replay_synced.agrees);
          };
      asks = λ w are.
          let synced = c.sync.ensures.state word in
          let first : Later (MayReplayWithin c.args.limits.bytes (word_of w 24)) (g.D.Disk.state c.args.disk.now) (g.D.Disk.state c.sync.new.self) = later_sync Log c.sync.result _ _ tt (g.met.D.Disk.sound c.args.disk.now word) synced in
          asks_then {U = Unit {0}} _ (Ok tt) tt _ _ _ refl (asks_done (Ok tt) c.sync.result _ _ _ c.in_ok-sync.was synced.elsewhere.refused first)
          (by_replay_synced.asks w (synced_present w w (g.D.Disk.state c.args.disk.now) (g.D.Disk.state c.sync.new.self) (g.D.Disk.state c.sync.new.self) (c.in_ok-sync.ensures.state word) w are));
    })
