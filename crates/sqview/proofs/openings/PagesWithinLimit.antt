-- So many pages within a limit.
use Rattle.std.proofs.Common.{⊎_elim, ℕ, ◌*◌, ◌/◌, ◌^◌, ◌<◌, ◌≤◌, arith}
use Rattle.std.proofs.Math.Nat.{div-mul-le_self, mul-le-mul_right, mul-le-mul_left}
use Rattle.sqval.specs.PageSize.{IsPageSize}
use Rattle.sqval.specs.Limits.{greatest}
use Rattle.sqval.proofs.page.PageSizes.{one_of}

least : (n : ℕ) → IsPageSize n → 512 ≤ n
least n is = ⊎_elim (λ e. omega arith) (⊎_elim (λ e. omega arith) (⊎_elim (λ e. omega arith) (⊎_elim (λ e. omega arith) (⊎_elim (λ e. omega arith) (⊎_elim (λ e. omega arith) (⊎_elim (λ e. omega arith) (λ e. omega arith))))))) (one_of n is)

-- at most 2 ^ 31 pages
pub count_fits : (count bytes size : ℕ) → count ≤ bytes / size → bytes ≤ greatest.bytes → IsPageSize size → count < 2 ^ 32
count_fits count bytes size le most is =
    let down : bytes / size * size ≤ bytes = div-mul-le_self bytes size in
    let few : count * size ≤ bytes / size * size = mul-le-mul_right size le in
    let some : count * 512 ≤ count * size = mul-le-mul_left count (least size is) in
    omega (arith, down, few, some)
