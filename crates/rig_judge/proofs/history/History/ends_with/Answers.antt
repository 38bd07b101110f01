use Rattle.std.proofs.Common.{◌≡◌, ◌-◌, ◌<◌, length, get_or, sym, ◌∙◌, ap, subst, arith, ℕ}
use Rattle.sqview.specs.LogView.{pages_of}
use Rattle.rig_judge.specs.Near.{IsNear, last_of}
use Rattle.rig_judge.specs.Shown.{Commit, commit_of, commits_of}
use Rattle.rig_judge.proofs.NumberedCommits.{last_taken, shows_last_ok}
use Rattle.rig_judge.proofs.history.History.ends_with.Goals as goal

pub returns-clause-shown : goal.returns-clause-shown
returns-clause-shown g c = λ right near.
    let xs = c.args.self.now.commits.items in
    let last = c.index.result.now in
    let view = c.args.view.now in
    let db = g.F.FileBytes.bytes view.db in
    let all : c.len-count.result ≡ length xs = omega (arith, c.len-count.ensures, c.args.self.now.commits.ok.0) in
    let some : 0 < length xs = omega arith in
    let same : last_of (commits_of c.args.self.now) ≡ commit_of last = last_taken xs last some (c.index.ensures ∙ ap (λ (m : ℕ). get_or xs (m - 1) last) all) in
    shows_last_ok xs c.len-count.result last (pages_of g.F.FileBytes.bytes view) c.is_shown_near.result (omega arith) all c.index.ensures
    (c.is_shown_near.ensures.shown right (subst (λ (x : Commit). IsNear x db c.args.near.now) same near))

pub returns-clause-near : goal.returns-clause-near
returns-clause-near g c = λ right near.
    let xs = c.args.self.now.commits.items in
    let last = c.index.result.now in
    let db = g.F.FileBytes.bytes c.args.view.now.db in
    let all : c.len-count.result ≡ length xs = omega (arith, c.len-count.ensures, c.args.self.now.commits.ok.0) in
    let some : 0 < length xs = omega arith in
    let same : last_of (commits_of c.args.self.now) ≡ commit_of last = last_taken xs last some (c.index.ensures ∙ ap (λ (m : ℕ). get_or xs (m - 1) last) all) in
    subst (λ (x : Commit). IsNear x db c.is_shown_near.new.near) (sym same) (c.is_shown_near.ensures.near right (subst (λ (x : Commit). IsNear x db c.args.near.now) same near))
