use Rattle.std.proofs.Common.{◌≡◌, ℕ, ap, refl, arith}
use Rattle.std.specs.Prelude.{Option, None, Some, IsSome, IfSome, ◌↔◌}
use Rattle.sqval.specs.PageSize.{IsPageSize}
use Rattle.rig_commit.proofs.pages.page_size.Goals as goal

is_size : IsPageSize 1024
is_size = (10, omega arith, omega arith, refl)

named : (o : Option ℕ) → IsSome o ↔ IsPageSize 1024 → IfSome o (λ size. size ≡ 1024) → o ≡ Some 1024
named None valid value = let bad : IsSome {T = ℕ} None = valid.1 is_size in cc
named (Some size) valid value = ap (λ (n : ℕ). Some n) value

pub returns : goal.returns
returns c = named c.new.result c.new.ensures.valid c.new.ensures.value
