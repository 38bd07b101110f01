use Rattle.std.proofs.Common.{ℕ, sym, subst}
use Rattle.std.specs.Prelude.{List, None}
use Rattle.std.proofs.lemmas.Result.{IfOk-weaker}
use Rattle.sqval.specs.Database.{Database}
use Rattle.rig_judge.specs.Shown.{Commit, IsLastShown, commits_of}
use Rattle.rig_judge.specs.Judged.{IsJudged}
use Rattle.rig_judge.proofs.judgment.judge_source.Goals as goal

pub returns-in-None-clause-judged : goal.returns-in-None-clause-judged
returns-in-None-clause-judged g c = λ right.
    let commits = commits_of c.args.history.now in
    let known = c.args.known in
    let d = g.S.PageSource.pages c.args.source.now in
    let e = g.S.PageSource.pages c.shown.new.source in
    let size = g.S.PageSource.size c.args.source.now in
    let size2 = g.S.PageSource.size c.shown.new.source in
    let last : IsLastShown commits d None = subst (IsLastShown commits d) c.in-None.is (c.in_ok-shown.ensures.shown right) in
    let same = c.in_ok-shown.ensures.keeps.same_pages in
    IfOk-weaker c.unshown.result (λ j. (cs : List Commit) (m : ℕ) → IsLastShown cs e None → IsJudged cs m e size2 j) (λ j. IsJudged commits known d size j)
    (λ j h. subst (λ (s : ℕ). IsJudged commits known d s j) c.in_ok-shown.ensures.keeps.same_size
    (subst (λ (x : Database). IsJudged commits known x size2 j) same (h commits known (subst (λ (x : Database). IsLastShown commits x None) (sym same) last))))
    (c.unshown.ensures.judged (c.in_ok-shown.ensures.keeps.still_right right))
