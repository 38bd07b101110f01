use Rattle.std.proofs.Common.{ℕ, ◌/◌, ◌+◌, subst, arith}
use Rattle.sqpage.specs.PointerMaps.{lock_byte, HoldsByte}
use Rattle.sqpage.proofs.file.PointerMapGroups.{least_size, holds_lock}
use Rattle.sqpage.proofs.pointer_map.lock_byte_page.Goals as goal

pub returns-clause-holds : goal.returns-clause-holds
returns-clause-holds c = subst (λ (n : ℕ). HoldsByte n (lock_byte / c.get.result + 1) lock_byte) c.get.ensures.value
    (holds_lock c.get.result (omega (arith, least_size c.get.result c.get.ensures.valid)))
