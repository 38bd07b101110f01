use Rattle.std.specs.Io.KnownBytes.{Appends}
use Rattle.std.specs.Cmp.Lexicographic.{bytes_decides}
use Rattle.std.proofs.Common.{◌∙◌, sym, true≢false}
use Rattle.cli_show.specs.Verdicts.{verdict_text}
use Rattle.cli_report.proofs.PagesWhole.{on_any}
use Rattle.cli_report.proofs.ReportsOfFiles.{kept_as_printed, kept_unwritten}
use Rattle.cli_report.proofs.reports.shown_to.Goals as goal

pub returns-in-Ok-clause-refused : goal.returns-in-Ok-clause-refused
returns-in-Ok-clause-refused g c = kept_unwritten c.print_verdict.result c.kept.result c.print_verdict.ensures.refused c.kept.ensures.as_printed

pub returns-in-Ok-clause-verdict : goal.returns-in-Ok-clause-verdict
returns-in-Ok-clause-verdict g c to =
    kept_as_printed (Appends (g.W.Write.contents c.args.out.now) (g.W.Write.contents c.print_verdict.new.out)
    (verdict_text c.args.job.now.source.now.options.style c.args.of.1.now.facts.found)) c.print_verdict.result c.kept.result c.print_verdict.ensures.verdict c.kept.ensures.err

pub returns-in-Ok-clause-begun : goal.returns-in-Ok-clause-begun
returns-in-Ok-clause-begun g c to = on_any c.kept.result c.in-Ok.ensures.begun

pub returns-then-eq-clause-verdict : goal.returns-then-eq-clause-verdict
returns-then-eq-clause-verdict g c to = absurd (to ((bytes_decides _ _).0 (sym c.if-eq.ensures)))

pub returns-then-eq-clause-begun : goal.returns-then-eq-clause-begun
returns-then-eq-clause-begun g c to = absurd (to ((bytes_decides _ _).0 (sym c.if-eq.ensures)))

pub returns-in-Ok-clause-page : goal.returns-in-Ok-clause-page
returns-in-Ok-clause-page g c to = absurd (true≢false (sym (c.if-eq.ensures ∙ (bytes_decides _ _).1 to)))
