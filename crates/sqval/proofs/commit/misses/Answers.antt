use Rattle.std.proofs.Common.{◌+◌, sym, arith}
use Rattle.sqval.proofs.page.PageNumbers.{search_none}
use Rattle.sqval.proofs.commit.misses.Goals as goal

pub returns-then-is_err : goal.returns-then-is_err
returns-then-is_err c = (c.loop-k.k + 1, omega arith, omega arith, search_none c.args.numbers.now (c.loop-k.k + 1) c.binary_search.result c.binary_search.ensures.position c.requires (sym c.if-is_err.ensures.value))
