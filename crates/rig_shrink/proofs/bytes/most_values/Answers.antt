use Rattle.std.proofs.Common.{◌≡◌, ℕ, ◌+◌, ◌/◌, ◌<◌, length, ◌∙◌, ap, below_more, arith}
use Rattle.std.proofs.Math.Nat.{div-le_self}
use Rattle.crashdisk.specs.Model.{state_of}
use Rattle.rig_shrink.proofs.bytes.most_values.Goals as goal

pub overflow_add-stop : goal.overflow_add-stop
overflow_add-stop c = omega (arith, div-le_self c.lengths-greatest.result.1 c.sector-sector.result, c.lengths-greatest.ensures.greatest, c.args.disk.now.db_solid.within)

pub loop-k-preserved : goal.loop-k-preserved
loop-k-preserved c =
    let s = state_of c.args.disk.now in
    below_more (λ (k : ℕ). length (s.db.earlier k) < c.greater-most.result) c.loop-k.k (λ k lt. omega (arith, c.loop-k.invariant k lt, c.greater-most.ensures.first)) (omega (arith, c.values-values.ensures, c.greater-most.ensures.second))

pub returns : goal.returns
returns c = λ k le.
    let s = state_of c.args.disk.now in
    let e : c.lengths-greatest.result.1 / c.sector-sector.result ≡ s.db.greatest / s.sector =
    ap (λ (x : ℕ). x / c.sector-sector.result) c.lengths-greatest.ensures.greatest ∙ ap (λ (y : ℕ). s.db.greatest / y) (c.sector-sector.ensures.answer tt) in
    c.loop-k.invariant k (omega (arith, e, c.loop-k-test.false))
