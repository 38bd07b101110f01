use Rattle.std.proofs.KnownBytes.{Appends-kept}
use Rattle.cli_show.specs.Verdicts.{verdict_text}
use Rattle.cli_report.proofs.reports.print_verdict.Goals as goal

pub returns-clause-verdict : goal.returns-clause-verdict
returns-clause-verdict g c =
    Appends-kept (g.W.Write.contents c.args.out.now) (g.W.Write.contents c.write_verdict.new.out) (g.W.Write.contents c.flush.new.self)
    (verdict_text c.args.style c.args.shown.now.facts.found) c.in_ok-write_verdict.ensures.text c.in_ok-flush.ensures.bytes
