use Rattle.std.proofs.Common.{◌+◌, ◌-◌, ◌*◌, ◌≤◌, arith}
use Rattle.std.proofs.Math.Nat.{mul-le-mul_right, mul-le-mul_left}
use Rattle.sqval.proofs.page.GatheredParts.{gathered}
use Rattle.sqval.proofs.stride.gather.Goals as goal

pub loop-k-preserved : goal.loop-k-preserved
loop-k-preserved c =
    let k = c.loop-k.k in
    let size = c.args.size in
    let gap = c.args.gap in
    let more : 1 * size ≤ (c.args.count - 1) * size = mul-le-mul_right size (let le : 1 ≤ c.args.count - 1 = omega (arith, c.if-count-eq1.false, c.requires.some) in le) in
    let wider : k * size ≤ k * (size + gap) = mul-le-mul_left k (let le : size ≤ size + gap = omega arith in le) in
    let further : (k + 1) * (size + gap) ≤ c.args.count * (size + gap) = mul-le-mul_right (size + gap) (let le : k + 1 ≤ c.args.count = omega arith in le) in
    let g = gathered c.args.room.now c.loop-k.room c.copy_from_slice.new.self c.split_at_mut-front.result.0.now c.split_at_mut-front.result.1.now ((c.args.count - 1) * size) size gap k (k * size + size - k * size) (omega arith) (omega (arith, more, wider))
    (omega (arith, further, c.requires.room, c.loop-k.auto.room)) c.split_at_mut-front.ensures.front c.split_at_mut-front.ensures.back c.copy_from_slice.ensures.after (record { done = c.loop-k.invariant.done; rest = c.loop-k.invariant.rest }) in
    record { done = g.done; rest = g.rest }
