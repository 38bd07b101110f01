use Rattle.std.proofs.Common.{◌≤◌, ◌↔◌, length, subst, arith}
use Rattle.std.specs.Prelude.{IsTrue}
use Rattle.sqval.specs.Database.{Database}
use Rattle.rig_judge.specs.Shown.{Shows, commit_of}
use Rattle.sqpage.proofs.file.PagesInMemory.{keeps_on}
use Rattle.rig_judge.proofs.NumberedCommits.{step_none}
use Rattle.rig_judge.proofs.history.History.shown.Goals as goal

pub loop-k-preserved : goal.loop-k-preserved
loop-k-preserved g c =
    let xs = c.args.self.now.commits.items in
    let was = c.loop-k.invariant in
    let within : c.loop-k.k ≤ length xs = omega (arith, c.loop-k.auto.k, c.len-k.ensures, c.args.self.now.commits.ok.0) in
    let shown = c.in_ok-is_shown.field-0 in (
      keeps_on was.0 c.is_shown.ensures.keeps,
      λ right.
          let is : IsTrue shown ↔ Shows (commit_of c.index.result.now) (g.S.PageSource.pages c.args.source.now) =
          subst (λ (d : Database). IsTrue shown ↔ Shows (commit_of c.index.result.now) d) was.0.same_pages (c.in_ok-is_shown.ensures.shown (was.0.still_right right)) in
          step_none xs c.loop-k.k c.index.result.now (g.S.PageSource.pages c.args.source.now) shown (omega arith) within c.index.ensures c.if-branch.false is (was.1 right),
    )
