use Rattle.std.proofs.Common.{subst}
use Rattle.rig_play.specs.Names.{NameState}
use Rattle.sqcrash.specs.Watching.{IsLookedAt}
use Rattle.sqcrash.proofs.watched.Watched.look_at_journal.Goals as goal

pub returns-clause-looked : goal.returns-clause-looked
returns-clause-looked c = subst (λ (s : NameState). IsLookedAt s c.put_present.new.out.items) c.journal.ensures c.in_ok-put_present.ensures

pub invariant_of-self-2 : goal.invariant_of-self-2
invariant_of-self-2 c =
    let held = c.args.self.now in
    let looked = subst (λ (s : NameState). IsLookedAt s c.put_present.new.out.items) c.journal.ensures c.in_ok-put_present.ensures in
    record {
      db = held.db;
      wal = held.wal;
      journal = λ yes. looked;
      known = held.known;
    }
