-- What a trace says (own, docs/TRACE.md).
use Rattle.std.specs.Prelude.{◌≡◌, ℕ, List, Option, Some, None, Result, Ok, Err}
use Rattle.rig_play.specs.declared.trace.Record.{Record}
use Rattle.rig_play.specs.declared.trace.Trace.{Trace}
use Rattle.rig_play.specs.declared.trace.TraceError.{TraceError}
use Rattle.rig_play.specs.declared.trace.TraceError.TheVariants.{NotATrace, Damaged, NoMemory}
use Rattle.rig_play.specs.Trace.{IsRecordAt, IsCutAt, IsDamagedAt, AreRecords}

-- what stands at a place
abbrev pub NextAnswer : List ℕ → (at : ℕ) → Result (Option Record) TraceError → Type 0
NextAnswer b at (Ok (Some r)) = IsRecordAt b at r
NextAnswer b at (Ok None) = IsCutAt b at
NextAnswer b at (Err (Damaged place)) = (place ≡ at) × IsDamagedAt b at
NextAnswer b at (Err _) = ⊥

-- what stands from a place on: records up to one that isn't there as a whole, or up to one that is none
abbrev pub ListAnswer : List ℕ → (at : ℕ) → Result Trace TraceError → Type 0
ListAnswer b at (Ok t) = AreRecords b at t.records.items t.end × IsCutAt b t.end
ListAnswer b at (Err (Damaged place)) = (records : List Record) × AreRecords b at records place × IsDamagedAt b place
ListAnswer b at (Err NoMemory) = Unit {0}
ListAnswer b at (Err NotATrace) = ⊥
