use Rattle.std.proofs.Common.{true, false, ◌∙◌, ap, List, ℕ}
use Rattle.rig_play.specs.Plays.{Files}
use Rattle.rig_judge.specs.Shown.{commits_of}
use Rattle.sqcrash.specs.Runs.{run_of}
use Rattle.sqcrash.proofs.NotedFiles.{notes_image}
use Rattle.sqcrash.proofs.run.Run.note_present.Goals as goal

pub returns-in_ok-push : goal.returns-in_ok-push
returns-in_ok-push c =
    let old = c.args.self.now in
    let commits = commits_of c.note.new.self.history in
    record {
      noted = notes_image old.watched.present c.args.thread (run_of old) _ true _ c.if-taken.true c.in_ok-taken.ensures.noted
          (ap (λ (f : Files). record (run_of old) { files = f; commits = commits; makers = c.push.new.self.items }) c.note.ensures.same
          ∙ ap (λ (l : List ℕ). record (run_of old) { commits = commits; makers = l }) c.in_ok-push.ensures.items);
      present = c.note.ensures.present;
      memory = tt;
    }

pub returns-else-taken : goal.returns-else-taken
returns-else-taken c =
    let old = c.args.self.now in
    record {
      noted = notes_image old.watched.present c.args.thread (run_of old) _ false _ c.if-taken.false c.in_ok-taken.ensures.noted
          (ap (λ (f : Files). record (run_of old) { files = f; commits = commits_of c.note.new.self.history }) c.note.ensures.same);
      present = c.note.ensures.present;
      memory = tt;
    }
