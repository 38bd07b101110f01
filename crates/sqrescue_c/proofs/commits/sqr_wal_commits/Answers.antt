use Rattle.std.proofs.Common.{◌≡◌, ◌<◌, List, ℕ, length, get_or, sym, subst, arith}
use Rattle.sqwal.specs.Commits.{AreCommits}
use Rattle.sqwal.specs.Header.{named_size}
use Rattle.sqwal.proofs.feed.ScanAnswers.{few_frames}
use Rattle.sqrescue_c.specs.Commits.{AreCommitsOf}
use Rattle.sqrescue_c.proofs.CopiedCommits.{few_commits}
use Rattle.sqrescue_c.proofs.commits.sqr_wal_commits.Goals as goal

pub returns-then-len-commits-clause-counted : goal.returns-then-len-commits-clause-counted
returns-then-len-commits-clause-counted c = λ _.
    let w = c.args.wal.now in
    let took = c.in-Ok.ensures.took in
    let ends = c.in-Ok-commits.ends.items in
    let are = c.in-Ok-commits.ensures.commits _ w took in
    let few = few_commits w ends are (few_frames w c.in-Ok.scan took) in
    record { ends = ends; are = are; counted = omega (arith, few, c.min.ensures, c.len.ensures) }

pub returns-then-len-commits-clause-crowded : goal.returns-then-len-commits-clause-crowded
returns-then-len-commits-clause-crowded c = λ _.
    let w = c.args.wal.now in
    let took = c.in-Ok.ensures.took in
    let are = c.in-Ok-commits.ensures.commits _ w took in
    let few = few_commits w c.in-Ok-commits.ends.items are (few_frames w c.in-Ok.scan took) in
    omega (arith, few, c.min.ensures, c.len.ensures, c.len-2.ensures)

pub returns-clause-counted : goal.returns-clause-counted
returns-clause-counted c = λ _.
    let w = c.args.wal.now in
    let took = c.in-Ok.ensures.took in
    let ends = c.in-Ok-commits.ends.items in
    let are = c.in-Ok-commits.ensures.commits _ w took in
    let few = few_commits w ends are (few_frames w c.in-Ok.scan took) in
    record { ends = ends; are = are; counted = omega (arith, few, c.min.ensures, c.len.ensures) }

pub returns-clause-commits : goal.returns-clause-commits
returns-clause-commits c = λ _.
    let w = c.args.wal.now in
    let took = c.in-Ok.ensures.took in
    let ends = c.in-Ok-commits.ends.items in
    let are = c.in-Ok-commits.ensures.commits _ w took in
    let few = few_commits w ends are (few_frames w c.in-Ok.scan took) in
    let count : length ends ≡ c.min.result = omega (arith, few, c.min.ensures, c.len.ensures) in
    let copied = subst (λ (l : List ℕ). AreCommits (named_size w) w l → AreCommitsOf w (length l) l c.copy_commits.new.commits) c.deref.ensures.value (c.copy_commits.ensures w took) are in
    record {
      ends = ends;
      are = are;
      counted = count;
      long = omega (arith, count, c.copy_commits.auto.commits, c.len-2.ensures);
      each = λ i d within. copied i d (omega (arith, count));
    }

pub copy_commits-requires-clause-rising : goal.copy_commits-requires-clause-rising
copy_commits-requires-clause-rising c =
    let are = c.in-Ok-commits.ensures.commits _ c.args.wal.now c.in-Ok.ensures.took in
    subst (λ (l : List ℕ). (i j : ℕ) → i < j → j < length l → get_or l i 0 < get_or l j 0) (sym c.deref.ensures.value) are.rising
