use Rattle.rollcore.proofs.Facts.{Commits, Done, LeavesParts, OnOk, PutAnswer, Result, RollError, StepsTo, TakesNonces, answered, apply, changed_here, commit_step, during, length, lent, number_of, on_ok_weaker, pages_of, parts_of, put_here, rules, segments_of, sizes, subst, sym, take}
use Rattle.rollcore.proofs.commits.write_commit.Goals as goal

pub returns-clause-disk : goal.returns-clause-disk
returns-clause-disk g c = during (search rules) (λ word opened.
    let by_put_commit = c.put_commit-put.ensures.disk.holds word in
    record {
      step = λ past fits.
          subst (λ (r : Result (Unit {0}) RollError). StepsTo past (Commits (lent c.args.pages.now) c.args.size c.args.nonces.now) (answered number_of (λ _. Done) r) c.end_put.new.core (g.D.Disk.state c.args.disk.now) (g.D.Disk.state c.put_commit-put.new.disk)) (sym c.end_put.ensures.same)
          (commit_step past c.args.core.now c.put_commit-put.new.core (g.D.Disk.state c.args.disk.now) (g.D.Disk.state c.put_commit-put.new.disk) fits opened c.args.pages.now c.args.size c.args.nonces.now c.requires c.put_commit-put.ensures.keeps
          (by_put_commit.asks (fits.core opened).header_room).later c.put_commit-put.result c.end_put.new.core (by_put_commit.asks (fits.core opened).header_room).told
          (put_here past c.args.core.now c.put_commit-put.new.core (g.D.Disk.state c.args.disk.now) (g.D.Disk.state c.put_commit-put.new.disk) fits opened c.args.pages.now c.args.size c.args.nonces.now c.requires c.put_commit-put.ensures.keeps
          (by_put_commit.asks (fits.core opened).header_room).later
          (λ n d. PutAnswer n d (apply d (lent c.args.pages.now) c.args.size) c.put_commit-put.result (g.D.Disk.state c.args.disk.now) (g.D.Disk.state c.put_commit-put.new.disk)) by_put_commit.put)
          c.end_put.ensures.answer);
      taken = λ past fits.
          let new = g.D.Disk.state c.put_commit-put.new.disk in
          subst (λ (r : Result (Unit {0}) RollError). TakesNonces past (lent c.args.pages.now) c.args.size c.args.nonces.now r (g.D.Disk.state c.args.disk.now) new) (sym c.end_put.ensures.same)
          (on_ok_weaker c.put_commit-put.result
          (λ leaves. (
            pages_of c.args.core.now.changes.items,
            changed_here past c.args.core.now c.put_commit-put.new.core (g.D.Disk.state c.args.disk.now) new fits opened c.args.pages.now c.args.size c.args.nonces.now c.requires c.put_commit-put.ensures.keeps
                (by_put_commit.asks (fits.core opened).header_room).later,
            leaves,
          ))
          (put_here past c.args.core.now c.put_commit-put.new.core (g.D.Disk.state c.args.disk.now) new fits opened c.args.pages.now c.args.size c.args.nonces.now c.requires c.put_commit-put.ensures.keeps
          (by_put_commit.asks (fits.core opened).header_room).later
          (λ n d. OnOk c.put_commit-put.result (LeavesParts (sizes (g.D.Disk.state c.args.disk.now).sector n) (parts_of d (pages_of c.args.core.now.changes.items) (take (segments_of (length (pages_of c.args.core.now.changes.items))) c.args.nonces.now)) new))
          by_put_commit.taken));
    })
