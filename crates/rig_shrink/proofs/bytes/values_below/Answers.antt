use Rattle.std.proofs.Common.{◌≡◌, ℕ, List, length, map, ap, subst, arith}
use Rattle.crashdisk.specs.Model.{state_of}
use Rattle.rig_shrink.specs.internal.Values.{AreValued}
use Rattle.rig_shrink.proofs.SectorsByValue.{values_more}
use Rattle.rig_shrink.proofs.bytes.values_below.Goals as goal

pub loop-n-init : goal.loop-n-init
loop-n-init c = record { long = ap (λ l. length (map (λ v. v.items) l)) c.new-all.ensures.items; each = λ m lt. absurd (omega arith) }

pub loop-n-preserved : goal.loop-n-preserved
loop-n-preserved c = values_more (λ v. v.items) (state_of c.args.disk.now) c.loop-n.n c.loop-n.all.items c.pushed.new.all.items c.in_ok-bytes.bytes c.loop-n.invariant c.in_ok-bytes.ensures c.in_ok-pushed.ensures

pub returns : goal.returns
returns c =
    let all : c.loop-n.n ≡ c.args.most = omega (arith, c.loop-n.auto.n-end, c.loop-n-test.false) in
    subst (λ (n : ℕ). AreValued (state_of c.args.disk.now) n (map (λ v. v.items) c.loop-n.all.items)) all c.loop-n.invariant
