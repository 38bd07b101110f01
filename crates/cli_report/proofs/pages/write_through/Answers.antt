use Rattle.std.specs.Io.Buffered.{writer_contents}
use Rattle.cli_report.proofs.PagesWhole.{on_any, page_kept}
use Rattle.cli_report.proofs.pages.write_through.Goals as goal

pub returns-clause-text : goal.returns-clause-text
returns-clause-text g c =
    on_any c.flush.result
    (page_kept c.args.template.now c.args.file.now c.args.shown.now
    (writer_contents g.W.Write.contents c.args.lines.now) (writer_contents g.W.Write.contents c.write_html.new.out) (writer_contents g.W.Write.contents c.flush.new.self)
    c.in_ok-write_html.ensures c.flush.ensures.bytes)
