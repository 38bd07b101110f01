use Rattle.rollcore.proofs.Facts.{during, fits_kept, inl, inr, lent, passed, refusal_open, refused_step, rules, ⊎_elim, ◌∙◌}
use Rattle.rollcore.proofs.commits.commit_pages.Goals as goal

pub returns-in_err-prepare-clause-disk : goal.returns-in_err-prepare-clause-disk
returns-in_err-prepare-clause-disk g c = during (search rules) (λ word.
    let core = c.args.core.now in
    let s = g.D.Disk.state c.args.disk.now in
    let pages = lent c.args.pages.now in
    record {
      step = λ past fits.
          let judged = refusal_open past core s fits pages c.args.size c.args.nonces.now c.if-not-core.false in
          refused_step past core c.prepare.new.core s fits c.prepare.ensures.keeps pages c.args.size c.args.nonces.now c.from_residual.result _ (passed c.from_residual.result _ c.from_residual.ensures.1)
          (⊎_elim (λ found. inl (judged ∙ found)) (λ want. inr (judged ∙ want.0, want.1)) c.in_err-prepare.ensures.answer);
      taken = search rules;
    })

pub returns-clause-disk : goal.returns-clause-disk
returns-clause-disk g c = during (search rules) (λ word.
    let s = g.D.Disk.state c.args.disk.now in
    let commits = c.write_commit.ensures.disk.holds word (c.prepare.ensures.keeps.is_open ∙ c.if-not-core.false) in
    record {
      step = λ past fits. commits.step past (fits_kept past c.args.core.now c.prepare.new.core s c.prepare.ensures.keeps fits);
      taken = λ past fits. commits.taken past (fits_kept past c.args.core.now c.prepare.new.core s c.prepare.ensures.keeps fits);
    })
