use Rattle.rollcore.proofs.Facts.{Asks, Change, MayCommit, None, Ok, RecordStep, RecordsAnswer, ap, arith, asks_as, asks_err, asks_same, asks_then, change_at, during, gone_end, gone_fits, gone_none, gone_off, gone_on, length, length-map, most_bytes, page_in, pages_of, passed, refl, rules, subst, sym, ℕ, ◌*◌, ◌+◌, ◌-◌, ◌<◌, ◌∙◌, ◌≡◌, ◌≤◌}
use Rattle.rollcore.proofs.segments.write_records.Goals as goal

pub loop-change-init : goal.loop-change-init
loop-change-init g c = record {
  word = search rules;
  asks = λ word sector. asks_same _ _ (g.met.D.Disk.sound c.args.disk.now word);
  end = omega arith;
  going = λ word sector d named place w is at fresh. gone_none _ sector d named place w (pages_of c.args.changes.now) c.args.nonce c.args.at (g.D.Disk.state c.args.disk.now) at is;
}

pub loop-change-preserved : goal.loop-change-preserved
loop-change-preserved g c = record {
  word = search rules;
  asks = λ word sector.
      asks_then {U = Unit {0}} (Ok tt) (Ok tt) tt _ _ _ refl (c.loop-change.invariant.asks word sector) (asks_as (Ok tt) c.write_record.result _ _ _ c.in_ok-write_record.was
      (subst (λ (k : ℕ). Asks (MayCommit (k - 8) sector) c.write_record.result (g.D.Disk.state c.loop-change.disk) (g.D.Disk.state c.write_record.new.disk)) c.loop-change.auto.buffer
      ((c.write_record.ensures.disk.holds (c.loop-change.invariant.word.0 word)).asks sector)));
  end =
      let so_far : c.loop-change.end ≡ c.args.at + c.loop-change.change-index * length c.write_record.new.buffer = c.loop-change.invariant.end ∙ ap (λ (n : ℕ). c.args.at + c.loop-change.change-index * n) (sym c.write_record.auto.buffer) in
      omega arith;
  going = λ word sector d named place w is at fresh.
      let n : ℕ = length c.args.buffer.now - 8 in
      let gone = c.loop-change.invariant.going word sector d named place w is at fresh in
      let lt : c.loop-change.change-index < length (pages_of c.args.changes.now) = omega (arith, c.loop-change-test.true, length-map c.args.changes.now (λ (c : Change). c.page)) in
      let here = page_in c.args.changes.now c.loop-change.change-index (record { page = 0; content = None }) c.loop-change-test.true in
      let same : length c.loop-change.buffer - 8 ≡ n = ap (λ (k : ℕ). k - 8) c.loop-change.auto.buffer in
      let fits = gone_fits n sector d named place w (pages_of c.args.changes.now) c.args.nonce c.loop-change.change-index c.loop-change.end _ _ (g.D.Disk.state c.loop-change.disk) (g.D.Disk.state c.loop-change.disk) gone fresh lt here in
      gone_on n sector d named place w (pages_of c.args.changes.now) c.args.nonce c.loop-change.change-index c.loop-change.end _ _ _ _ gone fresh lt here c.write_record.result c.in_ok-write_record.field-0 _ c.in_ok-write_record.was (omega (arith, c.write_record.auto.buffer, c.loop-change.auto.buffer))
      (subst (λ (k : ℕ). RecordStep k (change_at c.args.changes.now c.loop-change.change-index).page c.args.nonce c.loop-change.end c.write_record.result (g.D.Disk.state c.loop-change.disk) (g.D.Disk.state c.write_record.new.disk)) same
      ((c.write_record.ensures.disk.holds (c.loop-change.invariant.word.0 word)).step (subst (λ (k : ℕ). (change_at c.args.changes.now c.loop-change.change-index).page * k ≤ most_bytes) (sym same) fits)));
}

pub returns-clause-disk : goal.returns-clause-disk
returns-clause-disk g c = during (search rules) (λ word.
    record {
      asks = λ sector. asks_as {U = Unit {0}} _ (Ok tt) tt _ _ refl (c.loop-change.invariant.asks word sector);
      records = λ sector d named place w is at fresh.
          gone_end _ sector d named place w (pages_of c.args.changes.now) c.args.nonce c.loop-change.change-index c.loop-change.end _ _
          (omega (arith, c.loop-change-test.false, length-map c.args.changes.now (λ (c : Change). c.page))) (c.loop-change.invariant.going word sector d named place w is at fresh);
    })

pub returns-in_err-write_record-clause-disk : goal.returns-in_err-write_record-clause-disk
returns-in_err-write_record-clause-disk g c = during (search rules) (λ word.
    let by_write_record = c.write_record.ensures.disk.holds (c.loop-change.invariant.word.0 word) in
    record {
      asks = λ sector.
          asks_then {U = Unit {0}} _ (Ok tt) tt _ _ _ refl (c.loop-change.invariant.asks word sector) (asks_err c.from_residual.result c.write_record.result _ _ _ c.in_err-write_record.was (passed c.from_residual.result _ c.from_residual.ensures.1)
          (subst (λ (k : ℕ). Asks (MayCommit (k - 8) sector) c.write_record.result (g.D.Disk.state c.loop-change.disk) (g.D.Disk.state c.write_record.new.disk)) c.loop-change.auto.buffer
          (by_write_record.asks sector)));
      records = λ sector d named place w is at fresh.
          let n : ℕ = length c.args.buffer.now - 8 in
          let gone = c.loop-change.invariant.going word sector d named place w is at fresh in
          let lt : c.loop-change.change-index < length (pages_of c.args.changes.now) = omega (arith, c.loop-change-test.true, length-map c.args.changes.now (λ (c : Change). c.page)) in
          let here = page_in c.args.changes.now c.loop-change.change-index (record { page = 0; content = None }) c.loop-change-test.true in
          let same : length c.loop-change.buffer - 8 ≡ n = ap (λ (k : ℕ). k - 8) c.loop-change.auto.buffer in
          let fits = gone_fits n sector d named place w (pages_of c.args.changes.now) c.args.nonce c.loop-change.change-index c.loop-change.end _ _ (g.D.Disk.state c.loop-change.disk) (g.D.Disk.state c.loop-change.disk) gone fresh lt here in
          gone_off n sector d named place w (pages_of c.args.changes.now) c.args.nonce c.loop-change.change-index c.loop-change.end _ _ _ _ gone fresh lt here c.write_record.result _ c.from_residual.result c.in_err-write_record.was (passed c.from_residual.result _ c.from_residual.ensures.1)
          (subst (λ (k : ℕ). RecordStep k (change_at c.args.changes.now c.loop-change.change-index).page c.args.nonce c.loop-change.end c.write_record.result (g.D.Disk.state c.loop-change.disk) (g.D.Disk.state c.write_record.new.disk)) same
          (by_write_record.step (subst (λ (k : ℕ). (change_at c.args.changes.now c.loop-change.change-index).page * k ≤ most_bytes) (sym same) fits)))
          (λ x. RecordsAnswer n sector d named place w (pages_of c.args.changes.now) c.args.nonce x (g.D.Disk.state c.args.disk.now) (g.D.Disk.state c.write_record.new.disk)) (λ off. off);
    })
