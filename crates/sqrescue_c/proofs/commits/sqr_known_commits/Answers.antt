use Rattle.std.proofs.Common.{◌≡◌, ◌<◌, ◌≤◌, ◌-◌, cond, false, List, ℕ, Bool, length, get_or, sym, subst, arith}
use Rattle.sqwal.specs.Header.{named_size}
use Rattle.sqwal.proofs.feed.ScanAnswers.{few_frames}
use Rattle.sqrescue_c.proofs.CopiedCommits.{few_commits}
use Rattle.sqrescue_c.proofs.KnownCommits.{front_of, known_number}
use Rattle.sqrescue_c.proofs.commits.sqr_known_commits.Goals as goal

pub copy_known-requires-clause-from_one : goal.copy_known-requires-clause-from_one
copy_known-requires-clause-from_one c =
    let are = c.in-Ok-commits.ensures.commits _ c.args.files.now.wal.now c.in-Ok.ensures.took in
    subst (λ (l : List ℕ). (i : ℕ) → i < length l → 1 ≤ get_or l i 0) (sym c.deref-2.ensures.value) (λ i within. (are.each i within).0.first)

pub returns-then-len-known-clause-counted : goal.returns-then-len-known-clause-counted
returns-then-len-known-clause-counted c = λ _.
    let w = c.args.files.now.wal.now in
    let took = c.in-Ok.ensures.took in
    let ends = c.in-Ok-commits.ends.items in
    let are = c.in-Ok-commits.ensures.commits _ w took in
    let few = few_commits w ends are (few_frames w c.in-Ok.scan took) in
    record { ends = ends; are = are; counted = omega (arith, few, c.min.ensures, c.len-then-len-known.ensures) }

pub returns-then-len-known-clause-crowded : goal.returns-then-len-known-clause-crowded
returns-then-len-known-clause-crowded c = λ _.
    let w = c.args.files.now.wal.now in
    let took = c.in-Ok.ensures.took in
    let are = c.in-Ok-commits.ensures.commits _ w took in
    let few = few_commits w c.in-Ok-commits.ends.items are (few_frames w c.in-Ok.scan took) in
    omega (arith, few, c.min.ensures, c.len.ensures, c.len-then-len-known.ensures, c.if-len-known.true)

pub returns-clause-counted : goal.returns-clause-counted
returns-clause-counted c = λ _.
    let w = c.args.files.now.wal.now in
    let took = c.in-Ok.ensures.took in
    let ends = c.in-Ok-commits.ends.items in
    let are = c.in-Ok-commits.ensures.commits _ w took in
    let few = few_commits w ends are (few_frames w c.in-Ok.scan took) in
    record { ends = ends; are = are; counted = omega (arith, few, c.min-2.ensures, c.len-2.ensures) }

pub returns-clause-known : goal.returns-clause-known
returns-clause-known c = λ _.
    let db = c.args.files.now.db.now in
    let w = c.args.files.now.wal.now in
    let took = c.in-Ok.ensures.took in
    let ends = c.in-Ok-commits.ends.items in
    let are = c.in-Ok-commits.ensures.commits _ w took in
    let few = few_commits w ends are (few_frames w c.in-Ok.scan took) in
    let count : length ends ≡ c.min-2.result = omega (arith, few, c.min-2.ensures, c.len-2.ensures) in
    let front = front_of (named_size w) w ends are in
    let known = c.in-Ok-known_commits.ensures.right (tt, tt) _ front.0 took front.1 in
    let copied = subst (λ (l : List ℕ). (i : ℕ) → i < length l
    → get_or c.copy_known.new.known i 0 ≡ cond (get_or c.in-Ok-known_commits.by_frame.items (get_or l i 0 - 1) false) 1 0)
    c.deref-2.ensures.value
    (subst (λ (b : List Bool). (i : ℕ) → i < length c.deref-2.result.now
    → get_or c.copy_known.new.known i 0 ≡ cond (get_or b (get_or c.deref-2.result.now i 0 - 1) false) 1 0)
    c.deref.ensures.value c.copy_known.ensures) in
    record {
      ends = ends;
      are = are;
      counted = count;
      long = omega (arith, count, c.copy_known.auto.known, c.if-len-known.false, c.len.ensures);
      front = front.0;
      is_front = front.1;
      each = λ i within.
          let at = are.each i (omega (arith, within, count)) in
          known_number db w c.in-Ok-known_commits.by_frame.items front.0 (get_or ends i 0) (get_or c.copy_known.new.known i 0) known front.1 at.0 at.1
          (copied i (omega (arith, within, count)));
    }
