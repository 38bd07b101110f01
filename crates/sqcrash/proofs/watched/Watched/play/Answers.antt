use Rattle.rig_play.specs.Plays.{files_of}
use Rattle.sqcrash.proofs.WatchedFiles.{looked_still, still_db, still_wal, still_journal}
use Rattle.sqcrash.proofs.watched.Watched.play.Goals as goal

pub invariant_of-self-2 : goal.invariant_of-self-2
invariant_of-self-2 c =
    let held = c.args.self.now in
    let b = c.args.trace.now in
    let r = c.args.call.now in
    let old = files_of held.player in
    let new = files_of c.play.new.self in
    let step = c.in_ok-play.ensures.step in
    let left = c.behind-fresh.ensures in
    record {
      db = λ yes. looked_still old.db new.db held.present.db.items (still_db b r old new step (left.db yes).1) (held.db (left.db yes).0);
      wal = λ yes. looked_still old.wal new.wal held.present.wal.items (still_wal b r old new step (left.wal yes).1) (held.wal (left.wal yes).0);
      journal = λ yes. looked_still old.journal new.journal held.present.journal.items (still_journal b r old new step (left.journal yes).1) (held.journal (left.journal yes).0);
      known = held.known;
    }
