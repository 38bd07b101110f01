use Rattle.sqworld.proofs.Facts.{lent, numbered, take, ◌≡◌}
use Rattle.sqworld.proofs.session.lend.Given as goal

abbrev pub invariant-loop-page : goal.invariant-loop-page
invariant-loop-page l = lent l.all.items ≡ numbered (take l.page-index l.pages)
