-- The frame of a place in a log.
use Rattle.std.proofs.Common.{◌≡◌, ℕ, ◌+◌, ◌-◌, ◌*◌, ◌/◌, ◌≤◌, ◌<◌, ap, ◌∙◌, arith}
use Rattle.std.proofs.Math.Nat.{mul-div_cancel}
use Rattle.sqwal.specs.Frames.{frame_at}

pub frame_back : (size at i : ℕ) → 1 ≤ i → at ≡ frame_at size i + 24 → (at - 56) / (24 + size) + 1 ≡ i
unfolding frame_at
frame_back size at i one e =
    let less : at - 56 ≡ (i - 1) * (24 + size) = omega (arith, e) in
    let some : 0 < 24 + size = omega arith in
    let back : (i - 1) * (24 + size) / (24 + size) ≡ i - 1 = mul-div_cancel (i - 1) {n = 24 + size} some in
    let r : i - 1 + 1 ≡ i = omega (arith, one) in
    ap (λ n. n / (24 + size) + 1) less ∙ ap (λ n. n + 1) back ∙ r
