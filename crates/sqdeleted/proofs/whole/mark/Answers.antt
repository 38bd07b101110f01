use Rattle.std.proofs.Common.{◌≡◌, ℕ, List, Bool, arith, subst}
use Rattle.sqdeleted.proofs.WholePlaces.{MarkedTo}
use Rattle.sqdeleted.proofs.whole.mark.Goals as goal

pub returns-clause-marks : goal.returns-clause-marks
returns-clause-marks c =
    let end : c.places.at ≡ c.args.to = omega arith in
    let m = subst (λ (n : ℕ). MarkedTo c.args.held.now.items c.places.held.items c.args.from n) end c.places.invariant in
    m.marks
