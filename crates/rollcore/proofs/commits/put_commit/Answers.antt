use Rattle.rollcore.proofs.Facts.{AreChanges, ArePlaced, ArePut, Asks, Change, Database, HasParts, IsLogDurable, Journaled, List, MayCommit, MayReplay, None, OnOk, PutAnswer, RestsAt, Result, RollError, apply, arith, asks_err, asks_then, asks_wider, during, granted, length, lent, lent_at, lent_length, most_bytes, on_ok_weaker, pages_of, part_short, parts_of, passed, put_after, put_harmless, ready_placed, refusal_of, replay_may, rules, segments_of, sizes, subst, sym, take, zeroed, ℕ, ◌*◌, ◌<◌, ◌∙◌, ◌≡◌, ◌≤◌}
use Rattle.rollcore.proofs.commits.put_commit.Goals as goal

pub returns-in_err-put_segments-clause-disk : goal.returns-in_err-put_segments-clause-disk
returns-in_err-put_segments-clause-disk g c = during (search rules) (λ word.
    record {
      asks = λ wide.
          let sector = c.sector-sector.ensures.answer word in
          subst (λ (n : ℕ). Asks (MayCommit c.args.core.now.page_size n) c.from_residual.result (g.D.Disk.state c.args.disk.now) (g.D.Disk.state c.put_segments.new.disk)) sector
          (asks_err c.from_residual.result c.put_segments.result _ _ _ c.in_err-put_segments.was (passed c.from_residual.result _ c.from_residual.ensures.1) ((c.put_segments.ensures.disk.holds word).asks (wide ∙ sym sector)));
      put = λ d at.
          let size : ℕ = c.args.core.now.page_size in
          let e : Database = apply d (lent c.args.pages.now) c.args.size in
          subst (λ (x : Result (Unit {0}) RollError). PutAnswer size d e x (g.D.Disk.state c.args.disk.now) (g.D.Disk.state c.put_segments.new.disk))
          (sym (passed c.from_residual.result _ c.from_residual.ensures.1))
          (put_harmless (Unit {0}) size d e _ _ _ ((c.in_err-put_segments.ensures.disk.holds word).segments c.args.size d c.requires at (c.sector-sector.ensures.answer word)));
      taken = search rules;
    })

pub end_commit-requires : goal.end_commit-requires
end_commit-requires g c = record {
  pages = λ k d lt.
      let core = c.args.core.now in
      let right = granted core.size core.page_size (lent c.args.pages.now) c.args.size (length c.args.nonces.now) c.requires.granted in
      let here = lent_at c.args.pages.now k d lt in
      (omega (arith, here.0, right.above_zero k (omega (arith, lt, lent_length c.args.pages.now))), part_short c.args.pages.now c.args.size (length c.args.nonces.now) core c.requires core.sized k d lt);
}

pub returns-clause-disk : goal.returns-clause-disk
returns-clause-disk g c = during (search rules) (λ word.
    let by_put_segments = c.in_ok-put_segments.ensures.disk.holds word in
    let by_end_commit = c.end_commit.ensures.disk.holds (c.put_segments.ensures.disk.word.0 word) in
    let core = c.args.core.now in
    let sector = c.sector-sector.ensures.answer word in
    let pages = lent c.args.pages.now in
    let mid = g.D.Disk.state c.put_segments.new.disk in
    let new = g.D.Disk.state c.end_commit.new.disk in
    let keeps = c.put_segments.ensures.core.keeps in
    let durable = λ (d : Database) (at : RestsAt core d (g.D.Disk.state c.args.disk.now)). by_put_segments.segments c.args.size d c.requires at sector in
    let by_size = subst (λ (n : ℕ). (sector nonces : ℕ) (d : Database) (changes : List Change) (place : ℕ) (w : List ℕ)
    → Journaled n sector d (pages_of changes) place w mid → 0 < place → ArePut n (apply d pages c.args.size) (pages_of changes) mid.db
    → c.put_segments.new.core.size ≡ length d → AreChanges pages c.put_segments.new.core.size c.args.size changes → refusal_of c.put_segments.new.core.size n pages c.args.size nonces ≡ None
    → PutAnswer n d (apply d pages c.args.size) c.end_commit.result mid new × OnOk c.end_commit.result (IsLogDurable new (zeroed w))) keeps.page_size by_end_commit.ends in
    let by_count = subst (λ (n : ℕ). (sector nonces : ℕ) (d : Database) (changes : List Change) (place : ℕ) (w : List ℕ)
    → Journaled core.page_size sector d (pages_of changes) place w mid → 0 < place → ArePut core.page_size (apply d pages c.args.size) (pages_of changes) mid.db
    → n ≡ length d → AreChanges pages n c.args.size changes → refusal_of n core.page_size pages c.args.size nonces ≡ None
    → PutAnswer core.page_size d (apply d pages c.args.size) c.end_commit.result mid new × OnOk c.end_commit.result (IsLogDurable new (zeroed w))) keeps.size by_size in
    let ends = λ (d : Database) (at : RestsAt core d (g.D.Disk.state c.args.disk.now)).
    by_count c.sector-sector.result (length c.args.nonces.now) d core.changes.items (durable d at).0 (durable d at).1 (durable d at).3 (durable d at).2 (durable d at).4 (sym at.size) c.requires.changes c.requires.granted in
    record {
      asks = λ wide.
          let first = subst (λ (n : ℕ). Asks (MayCommit core.page_size n) c.put_segments.result (g.D.Disk.state c.args.disk.now) (g.D.Disk.state c.put_segments.new.disk)) sector
          ((c.put_segments.ensures.disk.holds word).asks (wide ∙ sym sector)) in
          let placed = ready_placed c.args.pages.now c.args.size (length c.args.nonces.now) core c.requires in
          let within = (granted core.size core.page_size (lent c.args.pages.now) c.args.size (length c.args.nonces.now) c.requires.granted).bytes in
          let last = subst (λ (n : ℕ). Asks (MayReplay n) c.end_commit.result (g.D.Disk.state c.put_segments.new.disk) new) keeps.page_size
          (by_end_commit.asks (subst (λ (n : ℕ). ArePlaced n c.args.pages.now) (sym keeps.page_size) placed) (subst (λ (n : ℕ). c.args.size * n ≤ most_bytes) (sym keeps.page_size) within)) in
          asks_then _ c.put_segments.result _ _ _ _ c.in_ok-put_segments.was first (asks_wider c.end_commit.result _ _ (replay_may core.page_size (g.D.Disk.state c.args.disk.now).sector) last);
      put = λ d at. put_after core.page_size d (apply d pages c.args.size) c.end_commit.result (g.D.Disk.state c.args.disk.now) mid new (durable d at).5 (ends d at).0;
      taken = λ d at.
          let parts = subst (λ (n : ℕ). HasParts (sizes n core.page_size) (durable d at).1 (durable d at).0 (parts_of d (pages_of core.changes.items) (take (segments_of (length (pages_of core.changes.items))) c.args.nonces.now))) sector (durable d at).6 in
          on_ok_weaker c.end_commit.result (λ log. ((durable d at).0, (durable d at).1, parts, log)) (ends d at).1;
    })
