use Rattle.crashdisk.proofs.Facts.{List, Names, [], get_or_default, length, naming_of, put_more, subst, ℕ, ◌∙◌}
use Rattle.crashdisk.proofs.crash.put_each.Goals as goal

pub loop-k-preserved : goal.loop-k-preserved
loop-k-preserved c =
    let naming = naming_of c.args.choice.now in
    let xs = c.args.sectors.now in
    let k = c.loop-k.k in
    let is = c.index-sectors-k.is ∙ get_or_default xs k c.index-sectors-k.result [] c.loop-k-test.true in
    put_more c.args.sector c.args.tears naming xs (length c.args.out.now) c.requires.positive c.requires.whole k c.loop-k.out c.put_sector.new.out c.named.result.now c.loop-k.invariant c.loop-k-test.true
    (subst (λ (v : List (List ℕ)). Names c.args.tears naming k v c.named.result.now) is c.named.ensures) c.put_sector.auto.out c.put_sector.ensures.inside c.put_sector.ensures.outside
