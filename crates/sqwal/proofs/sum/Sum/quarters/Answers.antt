use Rattle.std.proofs.Common.{◌≡◌, ℕ, ◌+◌, ◌*◌, ◌/◌, ◌%◌, ◌≤◌, List, drop, length, arith, subst, length-drop}
use Rattle.std.proofs.lemmas.List.{length-take-le}
use Rattle.sqval.specs.Bytes.{part}
use Rattle.sqwal.specs.internal.Lanes.{AreLanes, lane}
use Rattle.sqwal.specs.internal.Leaps.{IsLeap}
use Rattle.sqwal.proofs.checksum.Lanes.{goes_on_quarters}
use Rattle.sqwal.proofs.sum.Sum.quarters.Goals as goal

pub returns : goal.returns
returns g c order same =
    let bytes : List ℕ = c.args.bytes.now in
    let n : ℕ = length bytes / 64 in
    let k : ℕ = 16 * n in
    let whole : length bytes ≡ 4 * k = omega arith in
    let long : (at : ℕ) → at + k ≤ length bytes → length (part bytes at k) ≡ k = λ at h. length-take-le k (drop at bytes) (omega (arith, length-drop at bytes)) in
    let even : (at : ℕ) → at + k ≤ length bytes → length (part bytes at k) % 8 ≡ 0 = λ at h. (let e : length (part bytes at k) ≡ k = long at h in omega arith) in
    let leap : (at : ℕ) → at + k ≤ length bytes → IsLeap (length (part bytes at k) / 4) c.args.leap = λ at h.
    (let e : length (part bytes at k) ≡ k = long at h in subst (λ (j : ℕ). IsLeap j c.args.leap) (let f : length bytes / 16 ≡ length (part bytes at k) / 4 = omega arith in f) c.requires.leap) in
    let lanes : AreLanes order bytes n n c.args.self c.lanes.result.0 c.lanes.result.1 = c.lanes.ensures order same in
    goes_on_quarters order bytes k c.args.self (lane c.lanes.result.0 c.lanes.result.1 0) c.joined.result c.joined-2.result c.joined-3.result whole (omega arith)
    lanes.goes_on
    (c.joined.ensures order (part bytes k k) (even k (omega arith)) (leap k (omega arith)) lanes.from_zero)
    (c.joined-2.ensures order (part bytes (2 * k) k) (even (2 * k) (omega arith)) (leap (2 * k) (omega arith)) lanes.from_zero_too)
    (c.joined-3.ensures order (part bytes (3 * k) k) (even (3 * k) (omega arith)) (leap (3 * k) (omega arith)) lanes.last)
