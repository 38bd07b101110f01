use Rattle.walcore.proofs.Facts.{IsNewest, arith, below_more, subst, ℕ, ◌+◌, ◌≡◌}
use Rattle.walcore.proofs.copying.run_from.Goals as goal

pub loop-count-preserved : goal.loop-count-preserved
loop-count-preserved c =
    let pages = c.args.index.now.pages in
    let next : c.find-hit.result.frame ≡ c.args.frame + c.loop-count.count = omega (arith, c.if-from.false, c.from.ensures, c.from-in-loop-count.ensures, c.from-in-loop-count-2.ensures) in
    record {
      some = omega (arith, c.loop-count.invariant.some);
      within = omega (arith, c.loop-count-test.true);
      each = below_more (λ (j : ℕ). IsNewest pages (c.args.number + j) c.args.frames (c.args.frame + j)) _ c.loop-count.invariant.each
          (subst (λ (f : ℕ). IsNewest pages (c.args.number + c.loop-count.count) c.args.frames f) next (c.find-hit.ensures.newest (λ z. omega (arith, z, c.requires.number.0))));
    }
