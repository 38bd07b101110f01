use Rattle.std.proofs.Common.{◌≡◌, min, true, false, refl, arith, eq-eqb, ne_eqb}
use Rattle.std.specs.Prelude.{◌==◌}
use Rattle.std.proofs.lemmas.Grind.{common_steps}
use Rattle.sqpast.proofs.at.used_of.Goals as goal

pub returns-then-count-eq0 : goal.returns-then-count-eq0
returns-then-count-eq0 c = let t : (c.args.count == 0) ≡ true = eq-eqb c.args.count 0 c.if-count-eq0.true in rw t refl

pub returns : goal.returns
returns c =
    let t : (c.args.count == 0) ≡ false = ne_eqb c.args.count 0 c.if-count-eq0.false in
    let e : c.min.result ≡ min c.args.count c.args.most = grind (arith, common_steps) in
    rw t e
