use Rattle.std.proofs.Common.{subst}
use Rattle.std.proofs.lemmas.Result.{MatchResult-weaker}
use Rattle.sqcrash.specs.Runs.{RunState, run_of}
use Rattle.sqcrash.specs.Snapshots.{NotesImage}
use Rattle.sqcrash.proofs.NotedFiles.{checked_taken, checked_none}
use Rattle.sqcrash.proofs.run.Run.note_checked.Goals as goal

pub returns-then-branch : goal.returns-then-branch
returns-then-branch c =
    let image = c.look.new.self.watched.present in
    let old = run_of c.args.self.now in
    let new = run_of c.note_present.new.self in
    let taken = c.in_ok-note_present.field-0 in
    let seen = c.note_present.new.self.watched.present in
    let noted = subst (λ (s : RunState). NotesImage image c.args.thread s new taken) c.in_ok-look.ensures.same c.in_ok-note_present.ensures.noted in
    MatchResult-weaker c.fault.result c.fault.ensures
    (λ fault is. checked_taken image c.args.thread old new taken seen fault c.in_ok-look.ensures.present noted c.if-branch.true c.in_ok-note_present.ensures.present is)
    (λ refusal is. is)

pub returns-else-branch : goal.returns-else-branch
returns-else-branch c =
    let image = c.look.new.self.watched.present in
    let old = run_of c.args.self.now in
    let new = run_of c.note_present.new.self in
    let taken = c.in_ok-note_present.field-0 in
    let noted = subst (λ (s : RunState). NotesImage image c.args.thread s new taken) c.in_ok-look.ensures.same c.in_ok-note_present.ensures.noted in
    checked_none image c.args.thread old new taken c.in_ok-look.ensures.present noted c.if-branch.false
