use Rattle.std.proofs.Common.{subst}
use Rattle.rig_play.specs.Names.{NameState}
use Rattle.rig_judge.specs.Near.{last_of}
use Rattle.rig_judge.specs.Shown.{commits_of}
use Rattle.sqcrash.specs.Watching.{IsLookedAt}
use Rattle.sqcrash.proofs.watched.Watched.look_at_db.Goals as goal

pub returns-clause-looked : goal.returns-clause-looked
returns-clause-looked c = subst (λ (s : NameState). IsLookedAt s c.put_present.new.out.items) c.db.ensures c.in_ok-put_present.ensures

pub invariant_of-self-2 : goal.invariant_of-self-2
invariant_of-self-2 c =
    let held = c.args.self.now in
    let looked = subst (λ (s : NameState). IsLookedAt s c.put_present.new.out.items) c.db.ensures c.in_ok-put_present.ensures in
    record {
      db = λ yes. looked;
      wal = held.wal;
      journal = held.journal;
      known = c.forget.ensures (last_of (commits_of held.history)) c.put_present.new.out.items;
    }
