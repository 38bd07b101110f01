-- Records one behind the other.
use Rattle.std.proofs.Common.{◌≡◌, ℕ, ◌+◌, List, [], ◌∷◌, ◌++◌, ◌∙◌, ap, subst}
use Rattle.rig_play.specs.Trace.{carried, IsRecordAt, AreRecords}
use Rattle.rig_play.specs.declared.trace.Record.{Record}

-- one more
pub records_more : (b : List ℕ) (at : ℕ) (records : List Record) (end next : ℕ) (r : Record) → AreRecords b at records end → IsRecordAt b end r → next ≡ end + 40 + carried r
    → AreRecords b at (records ++ r ∷ []) next
records_more b at [] end next r is here e = (subst (λ (n : ℕ). IsRecordAt b n r) is here, e ∙ ap (λ (n : ℕ). n + 40 + carried r) is)
records_more b at (first ∷ records) end next r is here e = (is.0, records_more b (at + 40 + carried first) records end next r is.1 here e)
