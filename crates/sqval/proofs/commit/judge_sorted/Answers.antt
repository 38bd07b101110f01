use Rattle.std.proofs.Common.{true, false, ◌∙◌}
use Rattle.sqval.specs.internal.JudgedPages.{numbers_of}
use Rattle.sqval.proofs.page.PageNumbers.{skip, hit, twice_in_order, misses_same, hole_by_numbers}
use Rattle.sqval.proofs.commit.judge_sorted.Goals as goal

pub returns-then-not-rises : goal.returns-then-not-rises
returns-then-not-rises c pages same = hit _ _ _ (twice_in_order pages c.args.numbers.now false same c.requires c.if-not-rises.ensures)

pub returns-then-misses : goal.returns-then-misses
returns-then-misses c pages same = skip _ _ _ (twice_in_order pages c.args.numbers.now true same c.requires c.if-not-rises.ensures)
    ∙ hit _ _ _ (hole_by_numbers pages c.args.old_size c.args.size true (misses_same (numbers_of pages) c.args.numbers.now c.args.old_size c.args.size true same c.if-misses.ensures))

pub returns : goal.returns
returns c pages same = skip _ _ _ (twice_in_order pages c.args.numbers.now true same c.requires c.if-not-rises.ensures)
    ∙ skip _ _ _ (hole_by_numbers pages c.args.old_size c.args.size false (misses_same (numbers_of pages) c.args.numbers.now c.args.old_size c.args.size false same c.if-misses.ensures))
