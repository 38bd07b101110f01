use Rattle.sqcheck.proofs.Words.{Bool, List, arith, count_by, count_by-le-length, inl, length, not, refl, ◌+◌, ◌<◌, ◌^◌, ◌≤◌}
use Rattle.sqcheck.proofs.checker.new_walker.Goals as goal

pub invariant_of-result : goal.invariant_of-result
invariant_of-result g c =
    let marks : List Bool = c.in_ok-marks.marks.items in
    let most = count_by-le-length not marks in
    let long = c.in_ok-marks.ensures.long in
    record {
      few = (let fits = c.ranges.count.fits in let r : length marks < 2 ^ 32 = omega (arith, long, fits) in r);
      counted = (let r : 0 + 0 + 0 + count_by not marks ≤ length marks = omega (arith, most) in r);
      trees = (let r : 0 ≤ 0 = omega arith in r);
    }

pub returns-clause-new : goal.returns-clause-new
returns-clause-new g c = λ right. record {
  marks = c.in_ok-marks.ensures.aside right;
  rows = c.new-2.ensures.items;
  trees = refl;
  btree = refl;
  overflow = refl;
  free = refl;
  largest = refl;
}

pub returns-clause-none : goal.returns-clause-none
returns-clause-none g c = record { trees = refl; btree = refl; overflow = refl; free = refl; most = λ s i root. absurd i; one = inl refl }

pub returns-clause-barred : goal.returns-clause-barred
returns-clause-barred g c = λ right p page.
    c.in_ok-marks.ensures.barred right p (page.0, (let most : p ≤ length g.V.Snapshot.pages = page.1 in let long = c.in_ok-marks.ensures.long in let count = c.requires in let r : p ≤ length c.in_ok-marks.marks.items = omega (arith, most, long, count) in r))
