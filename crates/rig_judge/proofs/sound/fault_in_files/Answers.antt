use Rattle.std.proofs.Common.{ℕ, List, inl, Option, Some, None, MatchOption}
use Rattle.std.specs.Prelude.{Result, Ok, Err, IfOk}
use Rattle.sqpage.specs.declared.fault.CheckError.{CheckError}
use Rattle.sqview.specs.LogView.{pages_of}
use Rattle.sqview.specs.internal.LogView.{IsShown}
use Rattle.sqview.specs.declared.view.View.{View}
use Rattle.rig_judge.specs.Sound.{IsSound, IsFaulty, ShowsSound, ShowsFault}
use Rattle.rig_judge.proofs.sound.fault_in_files.Goals as goal

-- what is wrong with the database that files show is wrong with them
fault_shown : {F E : Type 0} (bytes : F → List ℕ) (db wal journal : List ℕ) (v : View F) (r : Result (Option CheckError) E) → IsShown bytes db wal journal v
    → IfOk r (λ o. MatchOption o (IsSound (pages_of bytes v) v.page_size) (IsFaulty (pages_of bytes v) v.page_size))
    → IfOk r (λ o. MatchOption o (ShowsSound db wal journal) (ShowsFault db wal journal))
fault_shown bytes db wal journal v (Ok (Some e)) shown is = (v.page_size, pages_of bytes v, shown.shows, is)
fault_shown bytes db wal journal v (Ok None) shown is = inl (v.page_size, pages_of bytes v, shown.shows, is)
fault_shown bytes db wal journal v (Err e) shown is = tt

pub returns-in-Ok-clause-fault : goal.returns-in-Ok-clause-fault
returns-in-Ok-clause-fault c =
    fault_shown _ c.args.db.now c.args.wal.now c.args.journal.now c.in-Ok.view c.fault_of.result (c.in-Ok.ensures.answer (tt, tt, tt)) (c.fault_of.ensures.fault (tt, tt))

pub returns-in-Err-clause-fault : goal.returns-in-Err-clause-fault
returns-in-Err-clause-fault c = c.unseen.ensures.fault c.args.db.now c.args.wal.now c.args.journal.now (c.in-Err.ensures.answer (tt, tt, tt))

pub returns-in-Err-clause-memory : goal.returns-in-Err-clause-memory
returns-in-Err-clause-memory c = c.unseen.ensures.memory c.args.db.now c.args.wal.now c.args.journal.now (c.in-Err.ensures.answer (tt, tt, tt))
