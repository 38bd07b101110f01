use Rattle.std.proofs.Common.{◌≡◌, ◌+◌, ◌-◌, get_or, refl, arith}
use Rattle.sqjournal.specs.NonceSum.{nonce_sum, total, counted}
use Rattle.sqjournal.proofs.journal.SumOverPagePlaces.{step_back, at_last}
use Rattle.sqjournal.proofs.nonce.page_sum.Goals as goal

pub loop-at-init : goal.loop-at-init
unfolding nonce_sum
loop-at-init c = record { within = omega arith; whole = omega arith; rest = refl }

pub loop-at-preserved : goal.loop-at-preserved
loop-at-preserved c =
    let page = c.args.page.now in
    let at = c.loop-at.at in
    let value : c.from-sum.result ≡ get_or page (at - 200) 0 = c.from-sum.ensures in
    let step : total (counted page) at ≡ total (counted page) (at - 200) + get_or page (at - 200) 0 = step_back page at c.loop-at.invariant.within c.loop-at.invariant.whole (omega arith) in
    record {
      within = omega arith;
      whole = omega arith;
      rest = omega arith;
    }

pub returns : goal.returns
returns c =
    let none : total (counted c.args.page.now) c.loop-at.at ≡ 0 = at_last c.args.page.now c.loop-at.at c.loop-at.invariant.within c.loop-at.invariant.whole (omega arith) in
    omega arith
