use Rattle.std.proofs.Common.{subst}
use Rattle.rig_play.specs.Names.{NameState}
use Rattle.sqcrash.specs.Watching.{IsLookedAt}
use Rattle.sqcrash.proofs.watched.Watched.look_at_wal.Goals as goal

pub returns-clause-looked : goal.returns-clause-looked
returns-clause-looked c = subst (λ (s : NameState). IsLookedAt s c.put_present.new.out.items) c.wal.ensures c.in_ok-put_present.ensures

pub invariant_of-self-2 : goal.invariant_of-self-2
invariant_of-self-2 c =
    let held = c.args.self.now in
    let looked = subst (λ (s : NameState). IsLookedAt s c.put_present.new.out.items) c.wal.ensures c.in_ok-put_present.ensures in
    record {
      db = held.db;
      wal = λ yes. looked;
      journal = held.journal;
      known = held.known;
    }
