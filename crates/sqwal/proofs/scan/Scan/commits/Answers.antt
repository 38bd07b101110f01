use Rattle.std.proofs.Common.{rules, ◌≡◌, ℕ, ◌+◌, List, [], ◌∷◌, ◌++◌, sym, ◌∙◌, subst, arith}
use Rattle.sqwal.specs.Header.{named_size}
use Rattle.sqwal.specs.Frames.{IsFront}
use Rattle.sqwal.specs.internal.Commits.{AreCommitsTo}
use Rattle.sqwal.proofs.log.CommitsAmongFrames.{commits_more, commits_same, commits_all, valid_to}
use Rattle.sqwal.proofs.scan.Scan.commits.Goals as goal
use Rattle.sqwal.proofs.scan.Scan.commits.Goals.{then-entry-ne0+in_ok-map_err, else-entry-ne0, else-loop-before-test, then-loop-before-test+in_default}

pub loop-before-preserved : goal.loop-before-preserved
loop-before-preserved c = λ most b took.
    let size = named_size b in
    let n = c.loop-before.before in
    let list = c.loop-before.commits.items in
    let are = c.loop-before.invariant most b took in
    let found = c.in-Some.ensures most b took in
    elim c.if-entry-ne0.branch [
      | then-entry-ne0+in_ok-map_err w ↦
          let is : c.if-entry-ne0.commits.items ≡ list ++ (n + 1) ∷ [] = search rules in
          subst (λ (l : List ℕ). AreCommitsTo size b (n + 1) l) (sym is) (commits_more size b list n are found.0 (λ z. w.if-entry-ne0.true (found.2 ∙ z)))
      | else-entry-ne0 w ↦
          let is : c.if-entry-ne0.commits.items ≡ list = cc in
          subst (λ (l : List ℕ). AreCommitsTo size b (n + 1) l) (sym is) (commits_same size b list n are (λ k. k (sym found.2 ∙ w.if-entry-ne0.false)))
    ]

pub returns-clause-commits : goal.returns-clause-commits
returns-clause-commits c = λ most b took.
    let size = named_size b in
    let frames = c.committed-before-end.result.frames in
    let front = (c.committed-before-end.ensures most b took).front in
    elim c.loop-before-test.branch [
      | else-loop-before-test w ↦
          let e : c.loop-before.before ≡ frames = omega (arith, w.loop-before-test.false, c.loop-before.auto.before-end) in
          commits_all size b c.loop-before.commits.items c.loop-before.before (c.loop-before.invariant most b took) (subst (λ (n : ℕ). IsFront size b n) (sym e) front)
      | then-loop-before-test+in_default w ↦
          absurd (w.in_default.ensures most b took (valid_to size b frames (c.loop-before.before + 1) front (omega arith) (omega (arith, w.loop-before-test.true))))
    ]
