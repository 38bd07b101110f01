use Rattle.rig_judge.specs.Near.{last_of}
use Rattle.rig_judge.specs.Shown.{commits_of}
use Rattle.sqcrash.proofs.watched.Watched.push.Goals as goal

pub invariant_of-self : goal.invariant_of-self
invariant_of-self c =
    let held = c.args.self.now in
    record {
      db = held.db;
      wal = held.wal;
      journal = held.journal;
      known = c.forget.ensures (last_of (commits_of c.push.new.self)) held.present.db.items;
    }
