use Rattle.rollcore.proofs.Facts.{Db, Device, ap, arith, asks_device, asks_done, during, later_write, length, one_page, page_end, passed, rules, ℕ, ◌*◌, ◌-◌, ◌≡◌}
use Rattle.rollcore.proofs.segments.put_page.Goals as goal

pub returns-in_err-write_at-clause-disk : goal.returns-in_err-write_at-clause-disk
returns-in_err-write_at-clause-disk g c = during (search rules) (λ word.
    record {
      asks = λ within.
          let at : c.from.result * length c.args.content.now ≡ (c.args.page - 1) * length c.args.content.now = ap (λ (n : ℕ). n * length c.args.content.now) c.from.ensures in
          asks_device c.from_residual.result _ _ (passed c.from_residual.result Device c.from_residual.ensures.1)
          (later_write Db _ _ c.write_at.result _ _ (c.args.page - 1, 1, at, omega arith, one_page (length c.args.content.now), omega (arith, at, page_end (length c.args.content.now) c.args.page c.requires.page)) (g.met.D.Disk.sound c.args.disk.now word) (c.write_at.ensures.state word));
      step = search rules;
    })

pub returns-clause-disk : goal.returns-clause-disk
returns-clause-disk g c = during (search rules) (λ word.
    record {
      asks = λ within.
          let at : c.from.result * length c.args.content.now ≡ (c.args.page - 1) * length c.args.content.now = ap (λ (n : ℕ). n * length c.args.content.now) c.from.ensures in
          let wrote = c.write_at.ensures.state word in
          asks_done _ c.write_at.result _ _ _ c.in_ok-write_at.was wrote.elsewhere.refused
          (later_write Db _ _ c.write_at.result _ _ (c.args.page - 1, 1, at, omega arith, one_page (length c.args.content.now), omega (arith, at, page_end (length c.args.content.now) c.args.page c.requires.page)) (g.met.D.Disk.sound c.args.disk.now word) wrote);
      step = search rules;
    })
