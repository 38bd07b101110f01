use Rattle.std.proofs.Common.{ℕ, Option, subst}
use Rattle.std.specs.Prelude.{Ok}
use Rattle.sqwal.specs.Header.{IsHeader}
use Rattle.cli_show.specs.Limits.{limits_named}
use Rattle.cli_recover.specs.internal.Scans.{NamesSize}
use Rattle.cli_recover.proofs.FoldedLogs.{plan_of_parts}
use Rattle.cli_recover.proofs.plans.plan_fold.Goals as goal

pub returns-in_ok-differs-in-Some-default-clause-plan : goal.returns-in_ok-differs-in-Some-default-clause-plan
returns-in_ok-differs-in-Some-default-clause-plan g c = λ gives_db gives.
    let wal = g.F.FileBytes.bytes c.args.files.now.wal in
    let once = c.log_page_size.ensures.same.still_gives gives in
    let twice = c.scan_to.ensures.same.still_gives once in
    let header : IsHeader c.in-Some-default.page_size wal =
    subst (λ (o : Option ℕ). NamesSize wal (Ok o)) c.in-Some-default.is-0 (c.in_ok-log_page_size.ensures.size gives) in
    plan_of_parts c.limits_of-limits.result (limits_named c.args.options.large) c.args.options.front (g.F.FileBytes.bytes c.args.files.now.db) wal
    (g.F.FileBytes.bytes c.log_page_size.new.log) (g.F.FileBytes.bytes c.scan_to.new.wal) c.in-Some-default.page_size c.in_ok-scan-in-Some-default.scan
    c.in_ok-differs-in-Some-default.differs c.by_sizes.result c.limits_of-limits.ensures c.log_page_size.ensures.same.same_bytes
    c.scan_to.ensures.same.same_bytes header (c.in_ok-scan-in-Some-default.ensures.scan once) (c.in_ok-differs-in-Some-default.ensures.answer gives_db)
    (c.by_sizes.ensures.plan twice)
