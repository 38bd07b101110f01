use Rattle.std.specs.Io.KnownBytes.{Keeps}
use Rattle.cli_report.proofs.PagesWhole.{on_ok}
use Rattle.cli_report.proofs.pages.ended.Goals as goal

pub returns-in-Ok-clause-whole : goal.returns-in-Ok-clause-whole
returns-in-Ok-clause-whole g c =
    let contents = g.W.Write.contents in
    let synced = c.sync.new.self in
    on_ok c.name.result (g.W.Whole.is_named synced)
    ((whole : g.row.W.Denot) × Keeps (contents c.args.made) (contents whole) × g.W.Whole.is_synced whole × g.W.Whole.is_named whole)
    (λ named. (synced, c.in-Ok.ensures.same, c.in-Ok.ensures.synced, named)) c.name.ensures.named
