use Rattle.sqcrash.specs.Runs.{run_of}
use Rattle.sqcrash.proofs.NotedFiles.{notes_seen}
use Rattle.sqcrash.proofs.run.Run.note.Goals as goal

pub returns : goal.returns
returns c =
    notes_seen c.look.new.self.watched.present c.args.thread (run_of c.args.self.now) (run_of c.look.new.self) _ c.in_ok-note_present.field-0 c.in_ok-look.ensures.same c.in_ok-look.ensures.present
    c.in_ok-note_present.ensures.noted
