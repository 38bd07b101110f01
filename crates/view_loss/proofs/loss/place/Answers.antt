use Rattle.std.proofs.Common.{◌≡◌, ◌≤◌, ℕ, ◌-◌, ◌+◌, ◌*◌, ◌^◌, ◌∙◌, ap, refl, arith}
use Rattle.std.proofs.Math.Nat.{mul-le-mul_left}
use Rattle.std.proofs.Math.Pow.{pow_mono}
use Rattle.sqval.specs.PageSize.{IsPageSize}
use Rattle.sqwal.specs.Frames.{frame_at}
use Rattle.view_loss.proofs.loss.place.Goals as goal

size_most : (size : ℕ) → IsPageSize size → size ≤ 65536
size_most size is = let m : 2 ^ is.0 ≤ 2 ^ 16 = pow_mono is.2 in omega (arith, is.3)

content_place : (size frame : ℕ) → 32 + (frame - 1) * (24 + size) + 24 ≡ frame_at size frame + 24
unfolding frame_at
content_place size frame = refl

pub returns-clause-place : goal.returns-clause-place
returns-clause-place c =
    ap (λ n. 32 + n * (24 + c.from-2.result) + 24) c.from.ensures
    ∙ ap (λ s. 32 + (c.args.frame - 1) * (24 + s) + 24) (c.from-2.ensures ∙ c.get.ensures.value)
    ∙ content_place c.args.page_size c.args.frame

pub returns-clause-low : goal.returns-clause-low
returns-clause-low c =
    let most = size_most c.get.result c.get.ensures.valid in
    let up : c.from.result ≤ 4294967295 = omega (arith, c.from.ensures, c.ranges.frame) in
    let a : c.from.result * (24 + c.from-2.result) ≤ c.from.result * 65560 = mul-le-mul_left c.from.result (let z : 24 + c.from-2.result ≤ 65560 = omega (arith, c.from-2.ensures) in z) in
    omega (arith, c.from-2.ensures, c.get.ensures.value)
