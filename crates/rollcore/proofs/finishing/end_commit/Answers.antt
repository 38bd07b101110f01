use Rattle.rollcore.proofs.Facts.{Db, Device, Later, MayReplay, Ok, PutAnswer, Result, RollError, ap, apply, arith, asks_device, asks_done, asks_err, asks_then, cut_done, cut_failed, cut_pages, during, ends_log, held_after, later_cut, lent, most_bytes, of_pages, pages_of, passed, put_after, put_harmless, refl, rules, some_changes, subst, sym, ℕ, ◌*◌, ◌∙◌, ◌≡◌}
use Rattle.rollcore.proofs.finishing.end_commit.Goals as goal

pub returns-in_err-put_new_pages-clause-disk : goal.returns-in_err-put_new_pages-clause-disk
returns-in_err-put_new_pages-clause-disk g c = during (search rules) (λ word.
    record {
      asks = λ placed within. asks_err c.from_residual.result c.put_new_pages.result _ _ _ c.in_err-put_new_pages.was (passed c.from_residual.result _ c.from_residual.ensures.1) ((c.put_new_pages.ensures.disk.holds word).asks c.args.page_size placed);
      ends = λ sector nonces d changes place w is begun put many listed none.
          let size : ℕ = c.args.page_size in
          let pages = lent c.args.pages.now in
          let after = apply d pages c.args.size in (
            subst (λ (r : Result (Unit {0}) RollError). PutAnswer size d after r (g.D.Disk.state c.args.disk.now) (g.D.Disk.state c.put_new_pages.new.disk)) (sym (passed c.from_residual.result _ c.from_residual.ensures.1))
                (put_harmless (Unit {0}) size d after _ _ _ ((c.in_err-put_new_pages.ensures.disk.holds word).put size sector d after (pages_of changes) place w (pages_of changes) is begun many
                (of_pages size sector d pages c.args.old_size c.args.size nonces changes place w begun many listed none) (some_changes size sector d pages c.args.old_size c.args.size nonces changes place w begun many listed none) put)),
            search rules,
          );
    })

pub returns-in_err-set_len-clause-disk : goal.returns-in_err-set_len-clause-disk
returns-in_err-set_len-clause-disk g c = during (search rules) (λ word.
    record {
      asks = λ placed within.
          let first = ((c.put_new_pages.ensures.disk.holds word).asks c.args.page_size placed) in
          let end : c.from.result * c.from-2.result ≡ c.args.size * c.args.page_size = ap (λ (k : ℕ). k * c.from-2.result) c.from.ensures ∙ ap (λ (k : ℕ). c.args.size * k) (c.from-2.ensures ∙ c.get.ensures.value) in
          let cut = c.set_len.ensures.state (c.put_new_pages.ensures.disk.word.0 word) in
          let mid : Later (MayReplay c.args.page_size) (g.D.Disk.state c.put_new_pages.new.disk) (g.D.Disk.state c.set_len.new.self) = later_cut Db _ c.set_len.result _ _ (c.args.size, end, omega (arith, end, within)) first.later.sound cut in
          asks_then _ c.put_new_pages.result _ _ _ _ c.in_ok-put_new_pages.was first
          (asks_device c.from_residual-in_err-set_len.result _ _ (passed c.from_residual-in_err-set_len.result Device c.from_residual-in_err-set_len.ensures.1) mid);
      ends = λ sector nonces d changes place w is begun put many listed none.
          let size : ℕ = c.args.page_size in
          let pages = lent c.args.pages.now in
          let after = apply d pages c.args.size in
          let done = (c.in_ok-put_new_pages.ensures.disk.holds word).put size sector d after (pages_of changes) place w (pages_of changes) is begun many
          (of_pages size sector d pages c.args.old_size c.args.size nonces changes place w begun many listed none) (some_changes size sector d pages c.args.old_size c.args.size nonces changes place w begun many listed none) put in
          let end : c.from.result * c.from-2.result ≡ c.args.size * size = ap (λ (k : ℕ). k * c.from-2.result) c.from.ensures ∙ ap (λ (k : ℕ). c.args.size * k) (c.from-2.ensures ∙ c.get.ensures.value) in (
            cut_failed size sector d pages c.args.old_size c.args.size nonces changes place w begun many listed none _ c.set_len.result _ c.from_residual-in_err-set_len.result (g.D.Disk.state c.args.disk.now) (g.D.Disk.state c.put_new_pages.new.disk) _
                end done.2 done.0 c.in_err-set_len.was (passed c.from_residual-in_err-set_len.result Device c.from_residual-in_err-set_len.ensures.1) (c.set_len.ensures.state (c.put_new_pages.ensures.disk.word.0 word)),
            search rules,
          );
    })

pub returns-clause-disk : goal.returns-clause-disk
returns-clause-disk g c = during (search rules) (λ word.
    let by_put_new_pages = c.in_ok-put_new_pages.ensures.disk.holds word in
    let by_finish = c.finish.ensures.disk.holds (c.set_len.ensures.word.0 (c.put_new_pages.ensures.disk.word.0 word)) in
    let size : ℕ = c.args.page_size in
    let pages = lent c.args.pages.now in
    record {
      asks = λ placed within.
          let first = ((c.put_new_pages.ensures.disk.holds word).asks c.args.page_size placed) in
          let end : c.from.result * c.from-2.result ≡ c.args.size * c.args.page_size = ap (λ (k : ℕ). k * c.from-2.result) c.from.ensures ∙ ap (λ (k : ℕ). c.args.size * k) (c.from-2.ensures ∙ c.get.ensures.value) in
          let cut = c.set_len.ensures.state (c.put_new_pages.ensures.disk.word.0 word) in
          let mid : Later (MayReplay c.args.page_size) (g.D.Disk.state c.put_new_pages.new.disk) (g.D.Disk.state c.set_len.new.self) = later_cut Db _ c.set_len.result _ _ (c.args.size, end, omega (arith, end, within)) first.later.sound cut in
          asks_then _ c.put_new_pages.result _ _ _ _ c.in_ok-put_new_pages.was first
          (asks_then {U = Unit {0}} _ (Ok tt) tt _ _ _ refl (asks_done (Ok tt) c.set_len.result _ _ _ c.in_ok-set_len.was cut.elsewhere.refused mid)
          (by_finish.asks most_bytes c.args.page_size));
      ends = λ sector nonces d changes place w is begun put many listed none.
          let after = apply d pages c.args.size in
          let done = by_put_new_pages.put size sector d after (pages_of changes) place w (pages_of changes) is begun many
          (of_pages size sector d pages c.args.old_size c.args.size nonces changes place w begun many listed none) (some_changes size sector d pages c.args.old_size c.args.size nonces changes place w begun many listed none) put in
          let end : c.from.result * c.from-2.result ≡ c.args.size * size = ap (λ (k : ℕ). k * c.from-2.result) c.from.ensures ∙ ap (λ (k : ℕ). c.args.size * k) (c.from-2.ensures ∙ c.get.ensures.value) in
          let set = c.in_ok-set_len.ensures.state (c.put_new_pages.ensures.disk.word.0 word) in
          let cut = cut_done size sector d pages c.args.old_size c.args.size nonces changes place w begun many listed none _ (g.D.Disk.state c.put_new_pages.new.disk) (g.D.Disk.state c.set_len.new.self) end done.0 set in (
            put_after size d after c.finish.result (g.D.Disk.state c.args.disk.now) (g.D.Disk.state c.set_len.new.self) (g.D.Disk.state c.finish.new.disk) (omega (arith, done.2, set.elsewhere.refused))
                (by_finish.commit size sector d after (pages_of changes) place w cut begun
                (cut_pages size sector d pages c.args.old_size c.args.size nonces changes place w begun many listed none _ (g.D.Disk.state c.put_new_pages.new.disk) (g.D.Disk.state c.set_len.new.self) end done.0 set done.1)
                (held_after size sector d pages c.args.old_size c.args.size nonces changes place w begun many listed none (g.D.Disk.state c.args.disk.now) is)),
            ends_log size sector d (pages_of changes) place w begun c.finish.result _ _ by_finish.ends cut,
          );
    })
