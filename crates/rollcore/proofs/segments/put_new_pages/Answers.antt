use Rattle.rollcore.proofs.Facts.{Asks, DiskState, Grown, MayReplay, Ok, PutPagesAnswer, Result, RollError, [], ap, arith, asks_as, asks_err, asks_same, asks_then, during, grown_all, grown_failed, grown_none, grown_old, grown_put, length, lent, lent_at, lent_length, new_numbers, passed, refl, rules, subst, sym, ℕ, ◌++◌, ◌+◌, ◌<◌}
use Rattle.rollcore.proofs.disk.ToldRefusals.{page_within}
use Rattle.rollcore.proofs.segments.put_new_pages.Goals.{then-page-old_size+in_ok-put_page, else-page-old_size}
use Rattle.rollcore.proofs.segments.put_new_pages.Goals as goal

pub loop-x-init : goal.loop-x-init
loop-x-init g c = record {
  word = search rules;
  asks = λ word size placed. asks_same _ _ (g.met.D.Disk.sound c.args.disk.now word);
  put = λ word size sector d e named place w before is begun many are somes put. grown_none size sector d e named place w begun (lent c.args.pages.now) are before somes (g.D.Disk.state c.args.disk.now) is put;
}

pub loop-x-preserved : goal.loop-x-preserved
loop-x-preserved g c = record {
  word = search rules;
  asks = λ word size placed.
      let before = c.loop-x.invariant.asks word size placed in
      elim c.if-page-old_size.branch [
        | then-page-old_size+in_ok-put_page x ↦
            let here = placed c.loop-x.x-index (0, record { ref_ptr = (0, 0); now = [] }) c.loop-x-test.true in
            subst (λ (s : DiskState). Asks {T = Unit {0}} (MayReplay size) (Ok tt) (g.D.Disk.state c.args.disk.now) s) (sym (ap g.D.Disk.state x.disk-is))
            (asks_then {U = Unit {0}} (Ok tt) (Ok tt) tt _ _ _ refl before (asks_as (Ok tt) x.put_page.result _ _ _ x.in_ok-put_page.was
            (subst (λ (n : ℕ). Asks (MayReplay n) x.put_page.result (g.D.Disk.state c.loop-x.disk) (g.D.Disk.state x.put_page.new.disk)) here.0
            ((x.put_page.ensures.disk.holds (c.loop-x.invariant.word.0 word)).asks (page_within size _ _ here.0 here.1)))))
        | else-page-old_size x ↦ subst (λ (s : DiskState). Asks {T = Unit {0}} (MayReplay size) (Ok tt) (g.D.Disk.state c.args.disk.now) s) (sym (ap g.D.Disk.state x.disk-is)) before
      ];
  put = λ word size sector d e named place w before is begun many are somes put.
      let was = c.loop-x.invariant.put word size sector d e named place w before is begun many are somes put in
      let lt : c.loop-x.x-index < length (lent c.args.pages.now) = omega (arith, c.loop-x-test.true, lent_length c.args.pages.now) in
      let here = lent_at c.args.pages.now c.loop-x.x-index (0, record { ref_ptr = (0, 0); now = [] }) c.loop-x-test.true in
      elim c.if-page-old_size.branch [
        | then-page-old_size+in_ok-put_page x ↦
            subst (λ (s : DiskState). Grown size sector d e named place w begun (lent c.args.pages.now) are before somes (c.loop-x.x-index + 1) (g.D.Disk.state c.args.disk.now) s) (sym (ap g.D.Disk.state x.disk-is))
            (grown_put size sector d e named place w begun (lent c.args.pages.now) are before somes c.loop-x.x-index lt _ _ x.put_page.result _ _ _ (sym here.0) (sym here.1) (omega (arith, x.if-page-old_size.true, many)) was
            (x.put_page.ensures.disk.holds (c.loop-x.invariant.word.0 word)).step x.in_ok-put_page.field-0 x.in_ok-put_page.was)
        | else-page-old_size x ↦
            subst (λ (s : DiskState). Grown size sector d e named place w begun (lent c.args.pages.now) are before somes (c.loop-x.x-index + 1) (g.D.Disk.state c.args.disk.now) s) (sym (ap g.D.Disk.state x.disk-is))
            (grown_old size sector d e named place w begun (lent c.args.pages.now) are before somes c.loop-x.x-index lt _ _ (omega (arith, here.0, x.if-page-old_size.false, many)) was)
      ];
}

pub returns-clause-disk : goal.returns-clause-disk
returns-clause-disk g c = during (search rules) (λ word.
    record {
      asks = λ size placed. asks_as {U = Unit {0}} _ (Ok tt) tt _ _ refl (c.loop-x.invariant.asks word size placed);
      put = λ size sector d e named place w before is begun many are somes put.
          let done = grown_all size sector d e named place w begun (lent c.args.pages.now) are before somes c.loop-x.x-index _ _ (omega (arith, c.loop-x-test.false, lent_length c.args.pages.now))
          (c.loop-x.invariant.put word size sector d e named place w before is begun many are somes put) in
          subst (λ (n : ℕ). PutPagesAnswer {T = Unit {0}} size sector d e named place w (before ++ new_numbers n (lent c.args.pages.now)) (Ok tt) (g.D.Disk.state c.args.disk.now) (g.D.Disk.state c.loop-x.disk)) (sym many) done;
    })

pub returns-in_err-put_page-clause-disk : goal.returns-in_err-put_page-clause-disk
returns-in_err-put_page-clause-disk g c = during (search rules) (λ word.
    let by_put_page = c.put_page.ensures.disk.holds (c.loop-x.invariant.word.0 word) in
    record {
      asks = λ size placed.
          let here = placed c.loop-x.x-index (0, record { ref_ptr = (0, 0); now = [] }) c.loop-x-test.true in
          asks_then {U = Unit {0}} _ (Ok tt) tt _ _ _ refl (c.loop-x.invariant.asks word size placed)
          (asks_err c.from_residual.result c.put_page.result _ _ _ c.in_err-put_page.was (passed c.from_residual.result _ c.from_residual.ensures.1)
          (subst (λ (n : ℕ). Asks (MayReplay n) c.put_page.result (g.D.Disk.state c.loop-x.disk) (g.D.Disk.state c.put_page.new.disk)) here.0
          (by_put_page.asks (page_within size _ _ here.0 here.1))));
      put = λ size sector d e named place w before is begun many are somes put.
          let was = c.loop-x.invariant.put word size sector d e named place w before is begun many are somes put in
          let lt : c.loop-x.x-index < length (lent c.args.pages.now) = omega (arith, c.loop-x-test.true, lent_length c.args.pages.now) in
          let here = lent_at c.args.pages.now c.loop-x.x-index (0, record { ref_ptr = (0, 0); now = [] }) c.loop-x-test.true in
          subst (λ (x : Result (Unit {0}) RollError). PutPagesAnswer size sector d e named place w (before ++ new_numbers c.args.old_size (lent c.args.pages.now)) x (g.D.Disk.state c.args.disk.now) (g.D.Disk.state c.put_page.new.disk))
          (sym (passed c.from_residual.result _ c.from_residual.ensures.1))
          (grown_failed size sector d e named place w begun (lent c.args.pages.now) are before somes c.loop-x.x-index lt _ _ c.put_page.result _ _ _ (sym here.0) (sym here.1) (omega (arith, c.if-page-old_size.true, many)) was
          by_put_page.step c.in_err-put_page.field-0.0 c.in_err-put_page.was);
    })
