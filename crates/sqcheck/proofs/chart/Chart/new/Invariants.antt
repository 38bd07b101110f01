use Rattle.sqcheck.proofs.Between.{SetTo}
use Rattle.sqcheck.proofs.chart.Chart.new.Given as goal

abbrev pub invariant-pages : goal.invariant-pages
invariant-pages l = SetTo l.page_size l.reserved l.count l.roles.items l.i
