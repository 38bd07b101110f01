use Rattle.std.proofs.Common.{Option, inr, subst}
use Rattle.std.specs.Prelude.{Ok}
use Rattle.sqwal.specs.Took.{TookWithin}
use Rattle.sqwal.specs.declared.scan.Scan.{Scan}
use Rattle.cli_recover.specs.internal.Scans.{ScansLog}
use Rattle.cli_recover.proofs.FoldedLogs.{by_front, plans_by_scan}
use Rattle.cli_recover.proofs.plans.by_sizes.Goals as goal

pub returns-in-Some-clause-plan : goal.returns-in-Some-clause-plan
returns-in-Some-clause-plan g c = λ gives took.
    plans_by_scan c.args.limits (g.F.FileBytes.bytes c.args.wal.now) c.args.log.0 c.args.log.1 c.in-Some.scan c.args.differs c.by_front.result
    c.if-not-differs.false c.in-Some.is took c.by_front.ensures

pub returns-in-Some-2-clause-plan : goal.returns-in-Some-2-clause-plan
returns-in-Some-2-clause-plan g c = λ gives took.
    let wal = g.F.FileBytes.bytes c.args.wal.now in
    let found : TookWithin c.args.limits.frames wal c.in-Some-2.scan =
    subst (λ (o : Option Scan). ScansLog c.args.limits wal (Ok o)) c.in-Some-2.is (c.in_ok-scan-in-None.ensures.scan gives) in
    by_front c.args.limits wal c.args.log.0 c.args.log.1 c.in-Some-2.scan c.args.differs c.by_front-in-Some-2.result
    c.if-not-differs.false (inr c.in-None.is) found (c.by_front-in-Some-2.ensures c.args.limits.frames wal found)
