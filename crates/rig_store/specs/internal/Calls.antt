-- What stands in a trace of a set of files (own, docs/TRACE.md).
use Rattle.std.specs.Prelude.{◌≡◌, ℕ, List, Option, Some, None, Result, Ok, Err}
use Rattle.rig_play.specs.declared.trace.TraceError.{TraceError}
use Rattle.rig_play.specs.declared.trace.TraceError.TheVariants.{NotATrace, Damaged, NoMemory}
use Rattle.rig_store.specs.declared.call.Call.{Call}
use Rattle.rig_store.specs.declared.call.Trace.{Trace}
use Rattle.rig_store.specs.Calls.{IsCallAt, IsCutAt, IsDamagedAt, AreCalls}

-- what stands at a place
abbrev pub NextAnswer : List ℕ → (at : ℕ) → Result (Option Call) TraceError → Type 0
NextAnswer b at (Ok (Some c)) = IsCallAt b at c
NextAnswer b at (Ok None) = IsCutAt b at
NextAnswer b at (Err (Damaged place)) = (place ≡ at) × IsDamagedAt b at
NextAnswer b at (Err _) = ⊥

-- what stands from a place on: records up to one that isn't there as a whole, or up to one that is none
abbrev pub ListAnswer : List ℕ → (at : ℕ) → Result Trace TraceError → Type 0
ListAnswer b at (Ok t) = AreCalls b at t.calls.items t.end × IsCutAt b t.end
ListAnswer b at (Err (Damaged place)) = (calls : List Call) × AreCalls b at calls place × IsDamagedAt b place
ListAnswer b at (Err NoMemory) = Unit {0}
ListAnswer b at (Err NotATrace) = ⊥
