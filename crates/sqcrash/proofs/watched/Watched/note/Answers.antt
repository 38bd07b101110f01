use Rattle.std.proofs.Common.{ℕ, List, sym, subst}
use Rattle.rig_judge.specs.Near.{IsNear, last_of}
use Rattle.rig_judge.specs.Shown.{commits_of}
use Rattle.sqcrash.proofs.NotedFiles.{noted_of}
use Rattle.sqcrash.proofs.watched.Watched.note.Goals as goal

pub returns-clause-noted : goal.returns-clause-noted
returns-clause-noted c =
    let old = c.args.self.now in
    let image = old.present in
    let near = subst (λ (l : List ℕ). IsNear (last_of (commits_of old.history)) l old.near) (sym c.deref.ensures.value) old.known in
    noted_of _ _ _ image.db.items image.wal.items image.journal.items c.in_ok-taken.taken (commits_of old.history) (commits_of c.note_near.new.self) c.deref.ensures.value c.deref-2.ensures.value
    c.deref-3.ensures.value (c.in_ok-taken.ensures.noted near)

pub invariant_of-self : goal.invariant_of-self
invariant_of-self c =
    let old = c.args.self.now in
    let near = subst (λ (l : List ℕ). IsNear (last_of (commits_of old.history)) l old.near) (sym c.deref.ensures.value) old.known in
    record {
      db = old.db;
      wal = old.wal;
      journal = old.journal;
      known = subst (λ (l : List ℕ). IsNear (last_of (commits_of c.note_near.new.self)) l c.note_near.new.near) c.deref.ensures.value (c.note_near.ensures.near near);
    }
