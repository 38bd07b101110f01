use Rattle.sqcheck.proofs.Between.{StandsWith, UnlessUnread, WellFormedWith, if_err, if_ok, none_stands, ◌≢◌}
use Rattle.sqpage.specs.declared.fault.Fault.TheVariants as faults
use Rattle.sqcheck.proofs.checker.check_with.Goals as goal

pub returns-clause-none : goal.returns-clause-none
returns-clause-none g c = λ right.
    let d = g.S.PageSource.pages c.args.source.now in
    let size = g.S.PageSource.size c.args.source.now in
    if_err (λ e. UnlessUnread (g.S.PageSource.gives_pages c.args.source.now) e.fault (StandsWith c.args.options.pointer_maps d size e.fault e.page)) (λ e. e.fault ≢ faults.Source → e.fault ≢ faults.NoMemory → ¬ WellFormedWith c.args.options.pointer_maps d size) c.check_snapshot.result (λ e h read other w. none_stands c.args.options.pointer_maps d size w e.fault e.page (h.1 read) other) (c.check_snapshot.ensures.err right)

pub returns-clause-ok : goal.returns-clause-ok
returns-clause-ok g c = λ right. if_ok _ _ c.check_snapshot.result (λ report h. (h.0, h.1)) (c.check_snapshot.ensures.ok right)
