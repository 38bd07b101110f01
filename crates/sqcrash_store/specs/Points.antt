-- Where a crash may come, and what is known there (own).
use Rattle.std.specs.Prelude.{◌≡◌, ◌≢◌, ◌⊎◌, ℕ, ◌-◌, ◌%◌, Bool, true, false, ◌&&◌, nat_eq, List, codes, Option, Some, None}
use Rattle.rig_store.specs.declared.call.Action.{Action}
use Rattle.rig_store.specs.declared.call.Action.TheVariants as actions
use Rattle.sqcrash_store.specs.declared.plan.Plan.{Plan}
use Rattle.sqcrash_store.specs.declared.plan.Part.{Part}

-- behind a mark, and where it may come after each call, behind a call
abbrev pub is_point : (every : Bool) → Action → Bool
is_point every actions.Mark = true
is_point every actions.Base = false
is_point every actions.Name = false
is_point every actions.End = false
is_point every _ = every

-- a mark with this line promises that its state is durable
abbrev pub IsPromise : Plan → (line : List ℕ) → Type 0
IsPromise plan line = (plan.is_promised ≡ true) × (line ≢ codes "mode")

-- the number of the last state that is known to be durable behind a mark, where that is state number `mark`
abbrev pub IsKnown : Plan → (line : List ℕ) → (mark old new : ℕ) → Type 0
IsKnown plan line mark old new = (IsPromise plan line × (new ≡ mark)) ⊎ ((IsPromise plan line → ⊥) × (new ≡ old))

-- a number is the one that is asked for, if one is
abbrev pub is_asked : Option ℕ → (n : ℕ) → Bool
is_asked None n = true
is_asked (Some asked) n = nat_eq asked n

-- a point of this number, counted from 1, is of the part that is asked for, if one is: of each so many in turn the one of its number
abbrev pub is_of_part : Option Part → (point : ℕ) → Bool
is_of_part None point = true
is_of_part (Some p) point = nat_eq ((point - 1) % p.of) (p.number - 1)

-- the images of a point are judged: it is of the part that is asked for, and the point that is
abbrev pub is_judged : Plan → (point : ℕ) → Bool
is_judged plan point = is_asked plan.point point && is_of_part plan.part point
