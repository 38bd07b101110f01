-- Records one behind the other.
use Rattle.std.proofs.Common.{◌≡◌, ℕ, ◌+◌, List, [], ◌∷◌, ◌++◌, ◌∙◌, ap, subst}
use Rattle.rig_store.specs.Calls.{carried, IsCallAt, AreCalls}
use Rattle.rig_store.specs.declared.call.Call.{Call}

-- one more
pub calls_more : (b : List ℕ) (at : ℕ) (calls : List Call) (end next : ℕ) (c : Call) → AreCalls b at calls end → IsCallAt b end c → next ≡ end + 40 + carried c
    → AreCalls b at (calls ++ c ∷ []) next
calls_more b at [] end next c is here e = (subst (λ (n : ℕ). IsCallAt b n c) is here, e ∙ ap (λ (n : ℕ). n + 40 + carried c) is)
calls_more b at (first ∷ calls) end next c is here e = (is.0, calls_more b (at + 40 + carried first) calls end next c is.1 here e)
