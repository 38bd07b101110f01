use Rattle.std.proofs.Common.{subst}
use Rattle.std.specs.Prelude.{OnOk}
use Rattle.cli_report.specs.internal.Pages.{HasPage}
use Rattle.cli_report.proofs.pages.made_whole.Goals as goal

pub returns-in-Ok-clause-whole : goal.returns-in-Ok-clause-whole
returns-in-Ok-clause-whole g c =
    subst (λ (made : g.row.W.Denot). OnOk c.written_whole.result
    (HasPage g.W.Write.contents g.W.Whole.is_synced g.W.Whole.is_named c.args.template.now c.args.file.now c.args.shown.now made)) c.in-Ok.ensures.inner
    c.written_whole.ensures.whole
