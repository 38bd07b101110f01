use Rattle.std.proofs.Common.{Option, Some, None, sym, append-nil, subst}
use Rattle.sqpage.specs.declared.fault.CheckError.{CheckError}
use Rattle.sqcrash.specs.Runs.{run_of}
use Rattle.sqcrash.specs.Markings.{marking_of}
use Rattle.sqcrash.specs.Snapshots.{NotesFault}
use Rattle.sqcrash.proofs.MarkedRecords.{notes_checked}
use Rattle.sqcrash.proofs.marked.Marking.note.Goals as goal

pub returns-in-None : goal.returns-in-None
returns-in-None c =
    let old = c.args.self.now in
    let run = c.note_checked.new.self in
    notes_checked c.args.thread c.commits-commit.result (marking_of old) _ None c.commits-commit.ensures
    (subst (λ (o : Option CheckError). NotesFault c.args.thread (run_of old.run) (run_of run) o) c.in-None.is c.in_ok-error.ensures) (sym (append-nil old.faults.items))

pub returns-in_ok-push-in-Some : goal.returns-in_ok-push-in-Some
returns-in_ok-push-in-Some c =
    let old = c.args.self.now in
    let run = c.note_checked.new.self in
    notes_checked c.args.thread c.commits-commit.result (marking_of old) _ (Some c.in-Some.error) c.commits-commit.ensures
    (subst (λ (o : Option CheckError). NotesFault c.args.thread (run_of old.run) (run_of run) o) c.in-Some.is c.in_ok-error.ensures) c.in_ok-push-in-Some.ensures.items
