use Rattle.sqcheck.proofs.Between.{Stands, UnlessUnread, WellFormed, false, if_err, none_stands, ◌≢◌}
use Rattle.sqpage.specs.declared.fault.Fault.TheVariants as faults
use Rattle.sqcheck.proofs.checker.visit_pages.Goals as goal

pub returns-clause-none : goal.returns-clause-none
returns-clause-none g c = λ right.
    let d = g.S.PageSource.pages c.args.source.now in
    let size = g.S.PageSource.size c.args.source.now in
    if_err (λ e. UnlessUnread (g.S.PageSource.gives_pages c.args.source.now) e.fault (Stands d size e.fault e.page)) (λ e. e.fault ≢ faults.Source → e.fault ≢ faults.NoMemory → ¬ WellFormed d size) c.check_snapshot.result (λ e h read other w. none_stands false d size w e.fault e.page (h.1 read) other) (c.check_snapshot.ensures.err right)
