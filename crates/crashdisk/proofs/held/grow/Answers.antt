use Rattle.crashdisk.proofs.Between.{[], ap, arith, grown_more, length, replicate, ◌++◌, ◌∙◌, ◌∷◌}
use Rattle.crashdisk.proofs.held.grow.Goals as goal

pub loop-preserved : goal.loop-preserved
loop-preserved c = record {
  at = omega (arith, c.in_ok-push.ensures.len, c.loop.invariant.at);
  bounded = omega (arith, c.loop-test.true, c.loop.invariant.bounded);
  longer = omega (arith, c.loop.invariant.longer);
  grown = c.in_ok-push.ensures.items ∙ ap (λ z. c.loop.sectors.items ++ z ∷ []) (c.in_ok-new.ensures ∙ ap (λ b. b ∷ []) c.in_ok-zeros.ensures)
      ∙ grown_more c.loop.sectors.items c.args.sectors.now.items c.loop.counter (length c.args.sectors.now.items) (replicate c.args.sector 0 ∷ []) c.loop.invariant.grown c.loop.invariant.longer;
}
