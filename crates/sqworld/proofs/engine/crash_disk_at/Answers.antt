use Rattle.sqworld.proofs.Facts.{Bool, Choice, CrashedLog, DiskState, Err, IfOk, IsLeftAt, IsLeftBy, Ok, Option, Result, state_of, ℕ}
use Rattle.crashdisk.specs.Choice.{naming_of}
use Rattle.crashdisk.specs.Count.{IsChoice}
use Rattle.sqworld.proofs.engine.crash_disk_at.Goals as goal

left_at : {E : Type 0} (r : Result (Option CrashedLog) E) (tears : Bool) (n : ℕ) (choice : Choice) (old new : DiskState)
    → IsChoice old.sector old.db old.log n (naming_of choice.db) (naming_of choice.log) → IfOk r (λ left. IsLeftBy tears choice left old new) → IfOk r (λ left. IsLeftAt tears n left old new)
left_at (Ok left) tears n choice old new named h = record { choice = choice; named = named; left_by = h }
left_at (Err e) tears n choice old new named h = tt

pub returns-clause-left : goal.returns-clause-left
returns-clause-left c = left_at c.crash_disk.result c.args.tears c.args.number c.in_ok-choice.choice (state_of c.args.disk.now) (state_of c.crash_disk.new.disk) c.in_ok-choice.ensures.named c.crash_disk.ensures.left
