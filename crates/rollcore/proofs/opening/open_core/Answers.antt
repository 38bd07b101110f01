use Rattle.rollcore.proofs.Facts.{OpenRefused, RefusedFor, TearsPages, arith, during, files_opened, files_refused, from_err, given_up, if_err, inl, inr, length, match_err, no_tears, opened_to, opens_err, passed, refl, rules, sector_some, size_bounds, subst, sym, tears_pages, ℕ, ◌∙◌, ◌≡◌}
use Rattle.rollcore.proofs.opening.open_core.Goals as goal

pub returns-in_err-pages : goal.returns-in_err-pages
returns-in_err-pages g c = during (search rules) (λ word.
    let by_recover = c.recover.ensures.disk.holds word in
    record {
      step = λ past found are same fits.
          match_err _ _ _ _ (passed c.from_residual-in_err-pages.result _ c.from_residual-in_err-pages.ensures.1)
          (given_up past found (g.D.Disk.state c.args.disk.now) fits (g.D.Disk.state c.recover.new.disk) _ c.recover.result c.in_err-pages.was (by_recover.recovered past found are same fits));
      agrees = search rules;
      synced =
          match_err _ _ _ _ (passed c.from_residual-in_err-pages.result _ c.from_residual-in_err-pages.ensures.1)
          (opens_err c.recover.result _ (g.D.Disk.state c.args.disk.now) (g.D.Disk.state c.recover.new.disk) c.in_err-pages.was by_recover.synced);
      refuses =
          if_err c.from_residual-in_err-pages.result _ (λ e. OpenRefused c.args.page_size e (g.D.Disk.state c.args.disk.now) (g.D.Disk.state c.recover.new.disk)) (passed c.from_residual-in_err-pages.result _ c.from_residual-in_err-pages.ensures.1)
          (inr (no_tears c.args.page_size (g.D.Disk.state c.args.disk.now) (omega (arith, c.if-size-sector_that_tears.false, c.get-size.ensures.value, c.sector_that_tears.ensures.value word)), λ db w are_db are. from_err c.recover.result _ (λ e. RefusedFor c.args.page_size db w e (g.D.Disk.state c.args.disk.now) (g.D.Disk.state c.recover.new.disk)) c.in_err-pages.was (files_refused c.args.page_size db w c.recover.result (g.D.Disk.state c.args.disk.now) (g.D.Disk.state c.recover.new.disk) (by_recover.files db w are_db are))));
      opens = search rules;
    })

pub new_core-requires-clause-header : goal.new_core-requires-clause-header
new_core-requires-clause-header g c = omega (arith, c.in_ok-header.ensures.len, sector_some c.sector.result c.sector.ensures.is_size)

pub new_core-requires-clause-sized : goal.new_core-requires-clause-sized
new_core-requires-clause-sized g c =
    let bounds = size_bounds c.get-size.result c.get-size.ensures.valid in
    (omega (arith, bounds.0, c.get-size.ensures.value), omega (arith, bounds.1, c.get-size.ensures.value))

pub new_core-requires-clause-short : goal.new_core-requires-clause-short
new_core-requires-clause-short g c = omega (arith, c.in_ok-header.ensures.len, (size_bounds c.sector.result c.sector.ensures.is_size).1)

pub returns : goal.returns
returns g c = during (search rules) (λ word.
    let by_recover = c.recover.ensures.disk.holds word in
    let long : length c.in_ok-header.header.items ≡ c.sector.result = search rules in
    record {
      step = λ past found are same fits.
          opened_to past found (g.D.Disk.state c.args.disk.now) fits (g.D.Disk.state c.recover.new.disk) _ c.recover.result c.in_ok-pages.was (by_recover.recovered past found are same fits) c.args.page_size same _ (long ∙ c.sector.ensures.answer word)
          c.new_core.result c.new_core.ensures;
      agrees = search rules;
      synced = search rules;
      refuses = search rules;
      opens =
          record {
            whole = no_tears c.args.page_size (g.D.Disk.state c.args.disk.now) (omega (arith, c.if-size-sector_that_tears.false, c.get-size.ensures.value, c.sector_that_tears.ensures.value word));
            files = λ db w are_db are. files_opened c.args.page_size db w c.recover.result _ (g.D.Disk.state c.args.disk.now) (g.D.Disk.state c.recover.new.disk) c.in_ok-pages.was (by_recover.files db w are_db are);
          };
    })

pub returns-then-size-sector_that_tears : goal.returns-then-size-sector_that_tears
returns-then-size-sector_that_tears g c = during (search rules) (λ word.
    let s = g.D.Disk.state c.args.disk.now in
    let torn = tears_pages c.args.page_size s (omega (arith, c.if-size-sector_that_tears.true, c.get-size.ensures.value, c.sector_that_tears.ensures.value word)) in
    record {
      step = λ past found are same fits. absurd (fits.suits.whole (subst (λ (n : ℕ). TearsPages n s) (sym same) torn));
      agrees = λ size w d durable alone. alone;
      synced = inl refl;
      refuses = inl (refl, torn, refl);
      opens = search rules;
    })
