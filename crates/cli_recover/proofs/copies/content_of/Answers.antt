use Rattle.cli_facts.specs.declared.outcome.Outcome.{Outcome}
use Rattle.cli_recover.specs.internal.Contents.{content_bytes}
use Rattle.cli_recover.specs.declared.copies.Content.{Content}
use Rattle.cli_recover.proofs.CopiedPages.{copied_as_planned, copied_at}
use Rattle.cli_recover.proofs.copies.content_of.Goals as goal

pub returns-in-Some : goal.returns-in-Some
returns-in-Some g c = λ given.
    let bytes = g.F.FileBytes.bytes in
    let files = c.args.files in
    copied_at (λ (found : Outcome × Content g.row.F.Denot g.row.M.Denot). found.0) (λ found. content_bytes bytes found.1) c.args.options (bytes files.db.file) (bytes files.wal.file)
    (bytes files.journal.file) c.in-Some.frame c.limits_of.result c.at_commit.result c.in-Some.is c.limits_of.ensures (c.at_commit.ensures given)

pub returns-in-None : goal.returns-in-None
returns-in-None g c = λ given.
    let bytes = g.F.FileBytes.bytes in
    let files = c.args.files in
    copied_as_planned (λ (found : Outcome × Content g.row.F.Denot g.row.M.Denot). found.0) (λ found. content_bytes bytes found.1) c.args.options (bytes files.db.file) (bytes files.wal.file)
    (bytes files.journal.file) c.as_planned.result c.in-None.is (c.as_planned.ensures given)
