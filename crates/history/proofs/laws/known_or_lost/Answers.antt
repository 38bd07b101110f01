use Rattle.std.proofs.Common.{length, ◌∙◌, arith}
use Rattle.sqval.proofs.page.FilePages.{size_some}
use Rattle.history.proofs.PagesKept.{known_at, one_at}
use Rattle.history.proofs.PagesLost.{lost_unknown}
use Rattle.history.proofs.laws.known_or_lost.Goals as goal

pub returns : goal.returns
returns c = record {
  known = λ size w front file m d is_size here known before is. known_at size w front file (let s = size_some size is_size in omega arith) before is m d here known;
  lost = λ size w front file m d is_size bytes point here lost. lost_unknown size w front file m d is_size bytes point here lost;
  one = λ size w m before d e point a b. one_at size w m (length before) _ point d e a b;
  apart = λ size w front file m d point past unknown. unknown.apart
      (one_at size w m (length unknown.one) _ point unknown.shown d unknown.one_at (past unknown.one unknown.one_before)
      ∙ one_at size w m (length unknown.other) _ point d unknown.differs (past unknown.other unknown.other_before) unknown.other_at);
}
