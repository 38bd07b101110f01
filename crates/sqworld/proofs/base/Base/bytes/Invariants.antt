use Rattle.sqworld.proofs.Facts.{concat, pages_of, take, ◌≡◌}
use Rattle.sqworld.proofs.base.Base.bytes.Given as goal

abbrev pub invariant-loop-page : goal.invariant-loop-page
invariant-loop-page l = l.bytes.items ≡ concat (pages_of (take l.page-index l.self.pages.items))
