use Rattle.std.proofs.Common.{ℕ, List, subst}
use Rattle.std.specs.Prelude.{Ok, Err, Result}
use Rattle.cli_show.specs.Limits.{limits_named}
use Rattle.cli_facts.specs.declared.outcome.Refusal.{Refusal}
use Rattle.cli_recover.specs.Plans.{PlansFold}
use Rattle.cli_recover.specs.declared.plans.Recovery.{Recovery}
use Rattle.cli_recover.proofs.PlannedByLogs.{plans_of}
use Rattle.cli_recover.proofs.recovering.planned_in.Goals as goal

pub returns-in-Ok : goal.returns-in-Ok
returns-in-Ok g c = λ given counts.
    let bytes = g.F.FileBytes.bytes in
    let files = c.args.files.now in
    let options = c.args.options in
    let db = bytes files.db in
    let plan : Result Recovery Refusal = Ok c.in-Ok.plan in
    let e = c.in-Ok.ensures in
    let same = c.asked_scan-scan.ensures in
    plans_of options db (bytes files.wal) (bytes files.journal) c.args.in_use plan counts e.file e.nothing
    (λ header is at. e.journal header is at given.2) e.no_commit
    (λ is at. subst (λ (l : List ℕ). PlansFold (limits_named options.large) options.front db l plan) same.same_bytes (e.wal is at given.0 (same.still_gives given.1)))

pub returns-in-Err : goal.returns-in-Err
returns-in-Err g c = λ given counts.
    let bytes = g.F.FileBytes.bytes in
    let files = c.args.files.now in
    let options = c.args.options in
    let db = bytes files.db in
    let plan : Result Recovery Refusal = Err c.in-Err.refusal in
    let e = c.in-Err.ensures in
    let same = c.asked_scan-scan.ensures in
    plans_of options db (bytes files.wal) (bytes files.journal) c.args.in_use plan counts e.file e.nothing
    (λ header is at. e.journal header is at given.2) e.no_commit
    (λ is at. subst (λ (l : List ℕ). PlansFold (limits_named options.large) options.front db l plan) same.same_bytes (e.wal is at given.0 (same.still_gives given.1)))
