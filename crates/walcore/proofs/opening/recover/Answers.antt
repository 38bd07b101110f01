use Rattle.walcore.proofs.Facts.{Database, Device, Log, ShowsAlone, agrees_after, agrees_looked, agrees_synced, agrees_then, alone_still, called_quiet, down_still, during, files_looked, files_synced, fold_sync, folded_empty, later_still, later_then, may_open, most_bytes, on_ok, passed, passes_device, ready_still, ready_synced, recover_counted, recover_unfolded, recover_unjudged, recover_unsynced, rules, still_empty, synced_empty, synced_files, synced_first, tells_quiet, tells_then, uncounted, unfolded, unjudged, unsynced, usual, wal_log, whole_at, whole_synced}
use Rattle.walcore.proofs.opening.recover.Goals as goal

pub returns-in_err-sync : goal.returns-in_err-sync
returns-in_err-sync g c = during c.sync.ensures.word (λ word.
    let s = g.D.Disk.state c.args.disk.now in
    let a = g.D.Disk.state c.sync.new.self in
    let sound = g.met.D.Disk.sound c.args.disk.now word in
    let call = c.sync.ensures.state word in
    let first = fold_sync most_bytes c.args.page_size Log c.sync.result s a sound call in
    let device = passed c.from_residual.result Device c.from_residual.ensures.1 in
    record {
      calls = record { later = first; told = λ more. device };
      agrees = agrees_synced c.args.page_size c.sync.result s a sound call;
      synced = unsynced c.args.page_size s a c.sync.result _ c.from_residual.result c.in_err-sync.was device call;
      empty = search rules;
      refuses = search rules;
      opens = search rules;
      recovered = λ past found are same fits chance. recover_unsynced past found s fits are chance _ c.sync.result c.from_residual.result _ c.in_err-sync.was call device;
    })

pub returns-in_err-judge_file : goal.returns-in_err-judge_file
returns-in_err-judge_file g c = during (search rules) (λ word.
    let s = g.D.Disk.state c.args.disk.now in
    let a = g.D.Disk.state c.sync.new.self in
    let sound = g.met.D.Disk.sound c.args.disk.now word in
    let call = c.sync.ensures.state word in
    let first = fold_sync most_bytes c.args.page_size Log c.sync.result s a sound call in
    let synced = c.in_ok-sync.ensures.state word in
    let b = g.D.Disk.state c.judge_file.new.disk in
    let judged = c.judge_file.ensures.holds (c.sync.ensures.word.0 word) in
    let still = judged.still in
    let called = called_quiet c.sync.result _ s a c.in_ok-sync.was call.elsewhere.refused in
    let end = passed c.from_residual-in_err-judge_file.result _ c.from_residual-in_err-judge_file.ensures.1 in
    record {
      calls = record {
        later = later_then s a b first (later_still a b first.sound still);
        told = λ more. passes_device Device c.judge_file.result c.from_residual-in_err-judge_file.result _ c.in_err-judge_file.was c.from_residual-in_err-judge_file.ensures.1 (tells_then Device c.judge_file.result s a b called judged.told more);
      };
      agrees = agrees_then c.args.page_size s a b (agrees_synced c.args.page_size c.sync.result s a sound call) (λ d alone. alone_still wal_log c.args.page_size d a b first.sound still alone);
      synced = synced_first c.args.page_size s a b c.sync.result _ c.from_residual-in_err-judge_file.result c.in_ok-sync.was call
          (λ w d durable alone. alone_still wal_log c.args.page_size d a b first.sound still alone);
      empty = search rules;
      refuses = λ fits found are.
          let files = files_synced c.args.page_size found s a sound fits are synced in
          unjudged c.args.page_size found s a sound fits are synced b c.judge_file.result c.from_residual-in_err-judge_file.result _ c.in_err-judge_file.was end
          (judged.found (whole_synced c.args.page_size found s a sound fits are synced) found.db found.log files.db files.log);
      opens = search rules;
      recovered = λ past found are same fits chance.
          let ready = ready_synced past found s fits are chance a synced in
          let files = synced_files past found s fits are chance a ready in
          recover_unjudged past found s fits are chance a ready c.args.page_size same b still _ c.judge_file.result c.from_residual-in_err-judge_file.result c.in_err-judge_file.was
          (judged.found (whole_at past found s fits are chance a ready c.args.page_size same) found.db found.log files.db files.log) end;
    })

pub returns-in_err-fold_synced : goal.returns-in_err-fold_synced
returns-in_err-fold_synced g c = during (search rules) (λ word.
    let s = g.D.Disk.state c.args.disk.now in
    let a = g.D.Disk.state c.sync.new.self in
    let sound = g.met.D.Disk.sound c.args.disk.now word in
    let call = c.sync.ensures.state word in
    let first = fold_sync most_bytes c.args.page_size Log c.sync.result s a sound call in
    let synced = c.in_ok-sync.ensures.state word in
    let b = g.D.Disk.state c.judge_file.new.disk in
    let judged = c.judge_file.ensures.holds (c.sync.ensures.word.0 word) in
    let still = judged.still in
    let called = called_quiet c.sync.result _ s a c.in_ok-sync.was call.elsewhere.refused in
    let quiet = tells_quiet Device c.judge_file.result _ s a b c.in_ok-judge_file.was called judged.told in
    let f = g.D.Disk.state c.fold_synced.new.disk in
    let then = c.judge_file.ensures.word.0 (c.sync.ensures.word.0 word) in
    let folded = c.fold_synced.ensures.holds then in
    let later = folded.calls.later in
    let none = still_empty a b still (synced_empty s a sound synced) in
    let looked = agrees_looked c.args.page_size a b f first.sound still folded.agrees in
    let end = passed c.from_residual-in_err-fold_synced.result _ c.from_residual-in_err-fold_synced.ensures.1 in
    record {
      calls = record {
        later = later_then s b f (later_then s a b first (later_still a b first.sound still)) later;
        told = λ more. passes_device Device c.fold_synced.result c.from_residual-in_err-fold_synced.result _ c.in_err-fold_synced.was c.from_residual-in_err-fold_synced.ensures.1 (tells_then Device c.fold_synced.result s b f quiet folded.calls.told more);
      };
      agrees = agrees_after c.args.page_size c.sync.result s a f sound call looked;
      synced = synced_first c.args.page_size s a f c.sync.result _ c.from_residual-in_err-fold_synced.result c.in_ok-sync.was call looked;
      empty = search rules;
      refuses = λ fits found are.
          let files = files_looked c.args.page_size found s a sound fits are synced b still in
          unfolded c.args.page_size found s a sound fits are synced b still f c.fold_synced.result c.from_residual-in_err-fold_synced.result _ c.in_err-fold_synced.was end
          (folded.folds none found.db found.log files.db files.log);
      opens = search rules;
      recovered = λ past found are same fits chance.
          let first = ready_synced past found s fits are chance a synced in
          let ready = ready_still past found s fits are chance a b first still in
          let files = synced_files past found s fits are chance b ready in
          recover_unfolded past found s fits are chance b ready c.args.page_size same f later folded.agrees folded.lengths _ c.fold_synced.result c.from_residual-in_err-fold_synced.result c.in_err-fold_synced.was
          (folded.folds files.empty found.db found.log files.db files.log) end;
    })

pub returns : goal.returns
returns g c = during (search rules) (λ word.
    let s = g.D.Disk.state c.args.disk.now in
    let a = g.D.Disk.state c.sync.new.self in
    let sound = g.met.D.Disk.sound c.args.disk.now word in
    let call = c.sync.ensures.state word in
    let first = fold_sync most_bytes c.args.page_size Log c.sync.result s a sound call in
    let synced = c.in_ok-sync.ensures.state word in
    let b = g.D.Disk.state c.judge_file.new.disk in
    let judged = c.judge_file.ensures.holds (c.sync.ensures.word.0 word) in
    let still = judged.still in
    let called = called_quiet c.sync.result _ s a c.in_ok-sync.was call.elsewhere.refused in
    let quiet = tells_quiet Device c.judge_file.result _ s a b c.in_ok-judge_file.was called judged.told in
    let f = g.D.Disk.state c.fold_synced.new.disk in
    let then = c.judge_file.ensures.word.0 (c.sync.ensures.word.0 word) in
    let folded = c.fold_synced.ensures.holds then in
    let later = folded.calls.later in
    let none = still_empty a b still (synced_empty s a sound synced) in
    let looked = agrees_looked c.args.page_size a b f first.sound still folded.agrees in
    let t = g.D.Disk.state c.count_pages.new.disk in
    let counted = c.count_pages.ensures.holds (c.fold_synced.ensures.word.0 then) in
    let kept = λ (d : Database) (alone : ShowsAlone wal_log c.args.page_size d f). alone_still wal_log c.args.page_size d f t later.sound counted.still alone in
    record {
      calls = record {
        later = later_then s b t (later_then s a b first (later_still a b first.sound still)) (later_then b f t later (later_still f t later.sound counted.still));
        told = tells_then Device c.count_pages.result s f t (tells_quiet Device c.fold_synced.result _ s b f c.in_ok-fold_synced.was quiet folded.calls.told) counted.told;
      };
      agrees = agrees_then c.args.page_size s f t (agrees_after c.args.page_size c.sync.result s a f sound call looked) kept;
      synced = synced_first c.args.page_size s a t c.sync.result _ c.count_pages.result c.in_ok-sync.was call (agrees_then c.args.page_size a f t looked kept);
      empty = on_ok c.count_pages.result _ (down_still _ f t counted.still (folded_empty usual c.args.page_size _ c.fold_synced.result b f c.in_ok-fold_synced.was (folded.folds none)));
      refuses = λ fits found are.
          let seen = files_synced c.args.page_size found s a sound fits are synced in
          let files = files_looked c.args.page_size found s a sound fits are synced b still in
          uncounted c.args.page_size found s a sound fits are synced b still f t c.judge_file.result _ c.fold_synced.result _ c.count_pages.result
          c.in_ok-judge_file.was (judged.found (whole_synced c.args.page_size found s a sound fits are synced) found.db found.log seen.db seen.log)
          c.in_ok-fold_synced.was (folded.folds none found.db found.log files.db files.log) later.refused counted.found;
      opens = λ fits found are.
          let seen = files_synced c.args.page_size found s a sound fits are synced in
          let files = files_looked c.args.page_size found s a sound fits are synced b still in
          on_ok c.count_pages.result _ (may_open c.args.page_size found s a b f c.judge_file.result _ c.fold_synced.result _ fits
          c.in_ok-judge_file.was (judged.found (whole_synced c.args.page_size found s a sound fits are synced) found.db found.log seen.db seen.log)
          c.in_ok-fold_synced.was (folded.folds none found.db found.log files.db files.log));
      recovered = λ past found are same fits chance.
          let first = ready_synced past found s fits are chance a synced in
          let ready = ready_still past found s fits are chance a b first still in
          let files = synced_files past found s fits are chance b ready in
          recover_counted past found s fits are chance b ready c.args.page_size same f later folded.agrees folded.lengths _ c.fold_synced.result c.in_ok-fold_synced.was
          (folded.folds files.empty found.db found.log files.db files.log) t counted.still c.count_pages.result counted.found;
    })
