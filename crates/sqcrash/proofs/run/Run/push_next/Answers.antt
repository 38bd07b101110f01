use Rattle.std.proofs.Common.{ℕ, List, [], ◌∷◌, ◌++◌, reverse, map, ◌∙◌, ap}
use Rattle.rig_play.specs.Plays.{Files}
use Rattle.rig_judge.specs.Shown.{Commit, commit_of, commits_of}
use Rattle.sqcrash.specs.Runs.{run_of}
use Rattle.sqcrash.proofs.WaitingCommits.{took_last}
use Rattle.sqcrash.proofs.run.Run.push_next.Goals as goal

pub returns : goal.returns
returns c =
    let old = c.args.self.now in
    let left = c.pop.new.self.items in
    let waiting = map commit_of (reverse left) in
    let makers = c.push-2.new.self.items in
    took_last old.waiting.items left c.in-Some.next c.args.thread (run_of old) _ c.in-Some.ensures.items
    (ap (λ (f : Files). record (run_of old) { files = f; commits = commits_of c.push.new.self.history; makers = makers; waiting = waiting }) c.push.ensures.same
    ∙ ap (λ (l : List Commit). record (run_of old) { commits = l; makers = makers; waiting = waiting }) c.in_ok-push.ensures.pushed
    ∙ ap (λ (l : List ℕ). record (run_of old) { commits = commits_of old.watched.history ++ commit_of c.in-Some.next ∷ []; makers = l; waiting = waiting }) c.in_ok-push-2.ensures.items)
