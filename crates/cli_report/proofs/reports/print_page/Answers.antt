use Rattle.cli_report.proofs.PagesWhole.{page_kept}
use Rattle.cli_report.proofs.reports.print_page.Goals as goal

pub returns-clause-page : goal.returns-clause-page
returns-clause-page g c =
    page_kept c.args.template.now c.args.file.now c.args.shown.now (g.W.Write.contents c.args.out.now) (g.W.Write.contents c.write_html.new.out) (g.W.Write.contents c.flush.new.self)
    c.in_ok-write_html.ensures c.in_ok-flush.ensures.bytes
