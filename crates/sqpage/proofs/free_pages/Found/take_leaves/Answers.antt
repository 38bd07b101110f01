use Rattle.std.proofs.Common.{◌++◌, ◌∷◌, [], subst, sym, ap, ◌∙◌}
use Rattle.sqpage.specs.Lists.{each_from}
use Rattle.sqpage.specs.Freelist.{leaf_in}
use Rattle.sqpage.specs.internal.Taking.{TakesAll}
use Rattle.sqpage.proofs.chain.ListsByRecursion.{each_from_snoc}
use Rattle.sqpage.proofs.chain.TakenPages.{takes_more}
use Rattle.sqpage.proofs.free_pages.Found.take_leaves.Goals as goal

pub leaves-preserved : goal.leaves-preserved
leaves-preserved c =
    let b = c.args.page.now in
    subst (TakesAll _ _ _ _) (ap (λ p. each_from 0 c.leaves.i (leaf_in b) ++ p ∷ []) c.word_at-leaf.ensures ∙ sym (each_from_snoc c.leaves.i (leaf_in b)))
    (takes_more _ _ _ _ _ _ _ _ c.leaves.invariant c.in_ok-take.ensures.ok)
