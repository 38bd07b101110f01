use Rattle.rollcore.proofs.Facts.{Asks, DiskState, MayReplay, Ok, PutPagesAnswer, Result, RollError, Turned, [], ap, arith, asks_as, asks_err, asks_same, asks_then, change_at, during, lent, lent_content, most_bytes, pages_of, passed, refl, rules, subst, sym, turned_all, turned_cut, turned_failed, turned_none, turned_put, ℕ, ◌*◌, ◌++◌, ◌+◌, ◌≤◌}
use Rattle.rollcore.proofs.segments.put_pages.Goals.{in-Some+in_ok-put_page-in-Some, in-None}
use Rattle.rollcore.proofs.segments.put_pages.Goals as goal

pub loop-change-init : goal.loop-change-init
loop-change-init g c = record {
  word = search rules;
  asks = λ word size placed within. asks_same _ _ (g.met.D.Disk.sound c.args.disk.now word);
  put = λ word size sector d e named place w before is begun turned somes put. turned_none size sector d e named place w begun (lent c.args.pages.now) c.args.changes.now turned before somes (g.D.Disk.state c.args.disk.now) is put;
}

pub returns-clause-disk : goal.returns-clause-disk
returns-clause-disk g c = during (search rules) (λ word.
    record {
      asks = λ size placed within. asks_as {U = Unit {0}} _ (Ok tt) tt _ _ refl (c.loop-change.invariant.asks word size placed within);
      put = λ size sector d e named place w before is begun turned somes put.
          turned_all size sector d e named place w begun (lent c.args.pages.now) c.args.changes.now turned before somes c.loop-change.change-index _ _ (omega (arith, c.loop-change-test.false))
          (c.loop-change.invariant.put word size sector d e named place w before is begun turned somes put);
    })

pub returns-in_err-put_page-in-Some-clause-disk : goal.returns-in_err-put_page-in-Some-clause-disk
returns-in_err-put_page-in-Some-clause-disk g c = during (search rules) (λ word.
    let by_put_page = c.put_page.ensures.disk.holds (c.loop-change.invariant.word.0 word) in
    record {
      asks = λ size placed within.
          let full = (placed c.in-Some.k (0, record { ref_ptr = (0, 0); now = [] }) (c.requires.within c.loop-change.change-index c.in-Some.k c.loop-change-test.true c.in-Some.is)).0 in
          let fits = subst (λ (n : ℕ). (change_at c.args.changes.now c.loop-change.change-index).page * n ≤ most_bytes) (sym full) (within c.loop-change.change-index c.loop-change-test.true) in
          asks_then {U = Unit {0}} _ (Ok tt) tt _ _ _ refl (c.loop-change.invariant.asks word size placed within)
          (asks_err c.from_residual.result c.put_page.result _ _ _ c.in_err-put_page-in-Some.was (passed c.from_residual.result _ c.from_residual.ensures.1)
          (subst (λ (n : ℕ). Asks (MayReplay n) c.put_page.result (g.D.Disk.state c.loop-change.disk) (g.D.Disk.state c.put_page.new.disk)) full (by_put_page.asks fits)));
      put = λ size sector d e named place w before is begun turned somes put.
          let step = by_put_page.step in
          let was = c.loop-change.invariant.put word size sector d e named place w before is begun turned somes put in
          let some = c.in-Some.is in
          subst (λ (x : Result (Unit {0}) RollError). PutPagesAnswer size sector d e named place w (before ++ pages_of c.args.changes.now) x (g.D.Disk.state c.args.disk.now) (g.D.Disk.state c.put_page.new.disk))
          (sym (passed c.from_residual.result _ c.from_residual.ensures.1))
          (turned_failed size sector d e named place w begun (lent c.args.pages.now) c.args.changes.now turned before somes c.loop-change.change-index c.loop-change-test.true c.in-Some.k _ c.put_page.result _ _ _ some
          (lent_content c.args.pages.now c.in-Some.k (0, record { ref_ptr = (0, 0); now = [] }) (c.requires.within c.loop-change.change-index c.in-Some.k c.loop-change-test.true some)) was step c.in_err-put_page-in-Some.field-0.0 c.in_err-put_page-in-Some.was);
    })

pub loop-change-preserved : goal.loop-change-preserved
loop-change-preserved g c = record {
  word = search rules;
  asks = λ word size placed within.
      let before = c.loop-change.invariant.asks word size placed within in
      elim c.match-change.branch [
        | in-Some+in_ok-put_page-in-Some x ↦
            let full = (placed x.in-Some.k (0, record { ref_ptr = (0, 0); now = [] }) (c.requires.within c.loop-change.change-index x.in-Some.k c.loop-change-test.true x.in-Some.is)).0 in
            let fits = subst (λ (n : ℕ). (change_at c.args.changes.now c.loop-change.change-index).page * n ≤ most_bytes) (sym full) (within c.loop-change.change-index c.loop-change-test.true) in
            subst (λ (s : DiskState). Asks {T = Unit {0}} (MayReplay size) (Ok tt) (g.D.Disk.state c.args.disk.now) s) (sym (ap g.D.Disk.state x.disk-is))
            (asks_then {U = Unit {0}} (Ok tt) (Ok tt) tt _ _ _ refl before (asks_as (Ok tt) x.put_page.result _ _ _ x.in_ok-put_page-in-Some.was
            (subst (λ (n : ℕ). Asks (MayReplay n) x.put_page.result (g.D.Disk.state c.loop-change.disk) (g.D.Disk.state x.put_page.new.disk)) full ((x.put_page.ensures.disk.holds (c.loop-change.invariant.word.0 word)).asks fits))))
        | in-None x ↦ subst (λ (s : DiskState). Asks {T = Unit {0}} (MayReplay size) (Ok tt) (g.D.Disk.state c.args.disk.now) s) (sym (ap g.D.Disk.state x.disk-is)) before
      ];
  put = λ word size sector d e named place w before is begun turned somes put.
      let was = c.loop-change.invariant.put word size sector d e named place w before is begun turned somes put in
      elim c.match-change.branch [
        | in-Some+in_ok-put_page-in-Some x ↦ let step = (x.put_page.ensures.disk.holds (c.loop-change.invariant.word.0 word)).step in
            let some = x.in-Some.is in
            subst (λ (s : DiskState). Turned size sector d e named place w begun (lent c.args.pages.now) c.args.changes.now turned before somes (c.loop-change.change-index + 1) (g.D.Disk.state c.args.disk.now) s) (sym (ap g.D.Disk.state x.disk-is))
            (turned_put size sector d e named place w begun (lent c.args.pages.now) c.args.changes.now turned before somes c.loop-change.change-index c.loop-change-test.true x.in-Some.k _ x.put_page.result _ _ _ some
            (lent_content c.args.pages.now x.in-Some.k (0, record { ref_ptr = (0, 0); now = [] }) (c.requires.within c.loop-change.change-index x.in-Some.k c.loop-change-test.true some)) was step x.in_ok-put_page-in-Some.field-0 x.in_ok-put_page-in-Some.was)
        | in-None x ↦
            subst (λ (s : DiskState). Turned size sector d e named place w begun (lent c.args.pages.now) c.args.changes.now turned before somes (c.loop-change.change-index + 1) (g.D.Disk.state c.args.disk.now) s) (sym (ap g.D.Disk.state x.disk-is))
            (turned_cut size sector d e named place w begun (lent c.args.pages.now) c.args.changes.now turned before somes c.loop-change.change-index c.loop-change-test.true _ _ x.in-None.is was)
      ];
}
