use Rattle.std.proofs.Common.{refl}
use Rattle.std.specs.Io.Buffered.{writer_inner}
use Rattle.cli_report.proofs.PagesWhole.{page_made}
use Rattle.cli_report.proofs.pages.written_whole.Goals as goal

pub returns-in-Ok-clause-whole : goal.returns-in-Ok-clause-whole
returns-in-Ok-clause-whole g c =
    page_made g.W.Write.contents g.W.Whole.is_synced g.W.Whole.is_named c.args.template.now c.args.file.now c.args.shown.now
    (writer_inner c.args.lines) c.args.lines c.write_through.new.lines
    c.inner_of.result c.ended.result refl c.requires c.inner_of.ensures c.in-Ok.ensures.empty c.in-Ok.ensures.text c.ended.ensures.whole
