use Rattle.std.proofs.Common.{ℕ, List, inl, inr, ◌∙◌, subst}
use Rattle.std.specs.Prelude.{Ok, Err, Result}
use Rattle.cli_facts.specs.declared.outcome.Outcome.{Outcome}
use Rattle.cli_facts.specs.declared.outcome.Refusal.{Refusal}
use Rattle.cli_recover.specs.Plans.{IsPlanOf, IsUnplannedOf, RollsBack}
use Rattle.cli_recover.specs.internal.Contents.{content_bytes}
use Rattle.cli_recover.specs.declared.copies.Content.{Content}
use Rattle.cli_recover.specs.declared.plans.Recovery.{Recovery}
use Rattle.cli_recover.proofs.CopiedPages.{copied_after}
use Rattle.cli_recover.proofs.PlannedByLogs.{plans_of}
use Rattle.cli_recover.proofs.copies.as_planned.Goals as goal

pub returns-in-Ok : goal.returns-in-Ok
returns-in-Ok g c = λ given.
    let bytes = g.F.FileBytes.bytes in
    let files = c.args.files in
    let options = c.args.options in
    let db = bytes files.db.file in
    let wal = bytes files.wal.file in
    let journal = bytes files.journal.file in
    let plan : Result Recovery Refusal = Ok c.in-Ok.plan in
    let e = c.in-Ok.ensures in
    let counts = c.in_ok-in_use.ensures.ok given.1 given.2 in
    let given_journal = c.counting_log.ensures.still_gives given.2 in
    let same = c.counting_log.ensures.same_bytes in
    let new = c.plan_recovery.new.files in
    let planned : IsPlanOf options db wal journal c.in-Ok.plan = plans_of options db wal journal c.in_ok-in_use.in_use plan counts e.file e.nothing
    (λ header is at. subst (λ (l : List ℕ). RollsBack options.super_journal l plan) same (e.journal header is at given_journal)) e.no_commit
    (λ is at. e.wal is at given.0 given.1) in
    copied_after (λ (found : Outcome × Content g.row.F.Denot g.row.M.Denot). found.0) (λ found. content_bytes bytes found.1) options db wal journal
    (bytes new.db.file) (bytes new.wal.file) (bytes new.journal.file) c.in-Ok.plan c.content_by.result e.kept.db.same_bytes e.kept.wal.same_bytes (e.kept.journal.same_bytes ∙ same)
    planned (λ is. c.content_by.ensures (e.kept.db.still_gives given.0, e.kept.wal.still_gives given.1, e.kept.journal.still_gives given_journal) is)

pub returns : goal.returns
returns g c = λ given.
    let bytes = g.F.FileBytes.bytes in
    let files = c.args.files in
    let options = c.args.options in
    let db = bytes files.db.file in
    let wal = bytes files.wal.file in
    let journal = bytes files.journal.file in
    let plan : Result Recovery Refusal = Err c.in-Err.refusal in
    let e = c.in-Err.ensures in
    let counts = c.in_ok-in_use.ensures.ok given.1 given.2 in
    let given_journal = c.counting_log.ensures.still_gives given.2 in
    let same = c.counting_log.ensures.same_bytes in
    let unplanned : IsUnplannedOf options db wal journal c.in-Err.refusal = plans_of options db wal journal c.in_ok-in_use.in_use plan counts e.file e.nothing
    (λ header is at. subst (λ (l : List ℕ). RollsBack options.super_journal l plan) same (e.journal header is at given_journal)) e.no_commit
    (λ is at. e.wal is at given.0 given.1) in
    inr (inl unplanned)
