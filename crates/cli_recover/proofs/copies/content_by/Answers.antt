use Rattle.std.proofs.Common.{subst}
use Rattle.cli_facts.specs.declared.outcome.Outcome.{Outcome}
use Rattle.cli_recover.specs.Plans.{IsPlanOf}
use Rattle.cli_recover.specs.internal.Contents.{content_bytes}
use Rattle.cli_recover.specs.declared.copies.Content.{Content}
use Rattle.cli_recover.specs.declared.plans.Recovery.{Recovery}
use Rattle.cli_recover.proofs.CopiedPages.{folds_by, replays_by}
use Rattle.cli_recover.proofs.copies.content_by.Goals as goal

pub returns-in-Fold : goal.returns-in-Fold
returns-in-Fold g c = λ given planned.
    let bytes = g.F.FileBytes.bytes in
    let files = c.args.files in
    let db = bytes files.db.file in
    let wal = bytes files.wal.file in
    let journal = bytes files.journal.file in
    let is = subst (λ (p : Recovery). IsPlanOf c.args.options db wal journal p) c.in-Fold.is planned in
    folds_by (λ (found : Outcome × Content g.row.F.Denot g.row.M.Denot). found.0) (λ found. content_bytes bytes found.1) c.args.options db wal journal
    c.in-Fold.field-0 c.in-Fold.scan c.args.plan c.folded.result c.in-Fold.is is.0 (c.folded.ensures c.in-Fold.field-0 given (is.1, is.0.0.0))

pub returns-in-RollBack : goal.returns-in-RollBack
returns-in-RollBack g c = λ given planned.
    let bytes = g.F.FileBytes.bytes in
    let files = c.args.files in
    let db = bytes files.db.file in
    let wal = bytes files.wal.file in
    let journal = bytes files.journal.file in
    let is = subst (λ (p : Recovery). IsPlanOf c.args.options db wal journal p) c.in-RollBack.is planned in
    replays_by (λ (found : Outcome × Content g.row.F.Denot g.row.M.Denot). found.0) (λ found. content_bytes bytes found.1) c.args.options db wal journal
    c.limits_of.result c.args.plan c.rolled_back.result c.in-RollBack.is c.limits_of.ensures (c.rolled_back.ensures given is.0.1.1.0)
