use Rattle.std.proofs.Common.{◌≡◌, ℕ, List, length, ap, subst, arith}
use Rattle.rig_shrink.specs.internal.Values.{IsEach}
use Rattle.rig_shrink.proofs.SectorsByValue.{each_more}
use Rattle.rig_shrink.proofs.bytes.each.Goals as goal

pub loop-k-init : goal.loop-k-init
loop-k-init c = record { long = ap (λ (l : List ℕ). length l) c.new-picks.ensures.items; each = λ k lt. absurd (omega arith) }

pub loop-k-preserved : goal.loop-k-preserved
loop-k-preserved c = each_more c.args.number c.loop-k.k c.loop-k.picks.items c.push.new.self.items c.loop-k.invariant c.in_ok-push.ensures.items

pub returns : goal.returns
returns c =
    let all : c.loop-k.k ≡ c.args.sectors = omega (arith, c.loop-k.auto.k-end, c.loop-k-test.false) in
    subst (λ (n : ℕ). IsEach c.args.number n c.loop-k.picks.items) all c.loop-k.invariant
