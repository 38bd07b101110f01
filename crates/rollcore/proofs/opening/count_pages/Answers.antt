use Rattle.rollcore.proofs.Facts.{Device, Err, IsPageSize, PageSize, TooLarge, arith, count_rest, count_whole, count_zero, during, passed, rules, still_looks, subst, sym, tells_ok, ℕ, ◌∙◌}
use Rattle.rollcore.proofs.disk.ToldRefusals.{told_device}
use Rattle.rollcore.proofs.opening.count_pages.Goals.{then-long-eq0-via-then-long-eq0, then-long-eq0-via-else-long-eq0+then-long-size-ne0}
use Rattle.rollcore.proofs.opening.count_pages.Goals as goal

pub returns-then-long-eq0-clause-disk : goal.returns-then-long-eq0-clause-disk
returns-then-long-eq0-clause-disk g c = during (search rules) (λ word.
    let sound = g.met.D.Disk.sound c.args.disk.now word in
    record {
      still = still_looks _ c.len.result _ _ sound (c.len.ensures.state word);
      told = tells_ok {T = ℕ} Device (Err PageSize) c.len.result _ (g.D.Disk.state c.args.disk.now) (g.D.Disk.state c.len.new.self) c.in_ok-long.was (c.len.ensures.state word).refused;
      found = (
        omega (arith, c.in_ok-long.ensures.answer word),
        λ n one e. elim c.then-long-eq0.branch [
          | then-long-eq0-via-then-long-eq0 w ↦ count_zero c.args.page_size n c.in_ok-long.long (subst (λ k. IsPageSize k) c.get.ensures.value c.get.ensures.valid) one (e ∙ sym (c.in_ok-long.ensures.answer word)) w.if-long-eq0.true
          | then-long-eq0-via-else-long-eq0+then-long-size-ne0 w ↦ count_rest c.args.page_size c.from-size.result n c.in_ok-long.long (c.from-size.ensures ∙ c.get.ensures.value) (e ∙ sym (c.in_ok-long.ensures.answer word)) w.if-long-size-ne0.true
        ],
      );
    })

pub returns-in_err-long-clause-disk : goal.returns-in_err-long-clause-disk
returns-in_err-long-clause-disk g c = during (search rules) (λ word.
    let sound = g.met.D.Disk.sound c.args.disk.now word in
    record {
      still = still_looks _ c.len.result _ _ sound (c.len.ensures.state word);
      told = told_device c.from_residual.result (g.D.Disk.state c.args.disk.now) (g.D.Disk.state c.len.new.self) (passed c.from_residual.result Device c.from_residual.ensures.1);
      found = search rules;
    })

pub returns-then-long-gt-MOST_BYTES-clause-disk : goal.returns-then-long-gt-MOST_BYTES-clause-disk
returns-then-long-gt-MOST_BYTES-clause-disk g c = during (search rules) (λ word.
    let sound = g.met.D.Disk.sound c.args.disk.now word in
    record {
      still = still_looks _ c.len.result _ _ sound (c.len.ensures.state word);
      told = tells_ok {T = ℕ} Device (Err TooLarge) c.len.result _ (g.D.Disk.state c.args.disk.now) (g.D.Disk.state c.len.new.self) c.in_ok-long.was (c.len.ensures.state word).refused;
      found = search rules;
    })

pub returns-clause-disk : goal.returns-clause-disk
returns-clause-disk g c = during (search rules) (λ word.
    let sound = g.met.D.Disk.sound c.args.disk.now word in
    record {
      still = still_looks _ c.len.result _ _ sound (c.len.ensures.state word);
      told = tells_ok {T = ℕ} Device _ c.len.result _ (g.D.Disk.state c.args.disk.now) (g.D.Disk.state c.len.new.self) c.in_ok-long.was (c.len.ensures.state word).refused;
      found =
          let long = c.in_ok-long.ensures.answer word in
          let whole = count_whole c.args.page_size c.from-size.result c.in_ok-long.long (c.from-size.ensures ∙ c.get.ensures.value) c.if-long-size-ne0.false c.if-long-eq0.false in
          (whole.0, whole.1 ∙ long, omega (arith, long, c.if-long-gt-MOST_BYTES.false));
    })
