use Rattle.std.proofs.Common.{◌≡◌, ◌∙◌, ℕ, List, Bool, false, true, refl}
use Rattle.sqpage.specs.Page.{VarintAt}
use Rattle.sqsalvage.proofs.parts.parts_at.Goals as goal

absent : (present : Bool) (used : List ℕ) (from to n : ℕ) → VarintAt present used from to n → present ≡ false → n ≡ 0
absent false used from to n at e = at.1
absent true used from to n at e = absurd (cc)

pub local_part-local-requires-clause-none : goal.local_part-local-requires-clause-none
local_part-local-requires-clause-none c = λ e. absent c.has_payload.result c.args.used.now c.in_ok-child.after_child c.in_ok-payload.after_size c.in_ok-payload.payload
    ((c.in_ok-payload.ensures.found c.in_ok-payload.payload c.in_ok-payload.after_size).0 refl) (c.has_payload.ensures ∙ e)
