use Rattle.std.proofs.Common.{◌≡◌, ℕ, length, get_or, sym, subst, arith}
use Rattle.sqrescue_c.specs.Commits.{IsCommitOf, AreCommitsOf}
use Rattle.sqrescue_c.proofs.CopiedCommits.{next_before, one_commit}
use Rattle.sqrescue_c.proofs.commits.copy_commits.Goals as goal

pub loop-i-preserved : goal.loop-i-preserved
loop-i-preserved c = record {
  behind = sym (next_before c.args.ends.now c.loop-i.i);
  copied = λ w took are.
      let ends = c.args.ends.now in
      let i = c.loop-i.i in
      let is = c.commit_of.ensures w took (are.each i (omega arith)).0 in
      one_commit w ends c.loop-i.commits i c.commit_of.result (omega arith)
      (subst (λ (n : ℕ). IsCommitOf w n (get_or ends i 0) c.commit_of.result) c.loop-i.invariant.behind is)
      (c.loop-i.invariant.copied w took are);
}

pub returns : goal.returns
returns c = λ w took are.
    let all : c.loop-i.i ≡ length c.args.ends.now = omega (arith, c.loop-i-test.false, c.loop-i.auto.i-end) in
    subst (λ (n : ℕ). AreCommitsOf w n c.args.ends.now c.loop-i.commits) all (c.loop-i.invariant.copied w took are)
