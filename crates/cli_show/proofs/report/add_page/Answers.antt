use Rattle.std.proofs.Common.{◌∙◌}
use Rattle.std.specs.Prelude.{Some}
use Rattle.std.proofs.lemmas.List.{append-nil}
use Rattle.cli_show.specs.Reports.{pages_of}
use Rattle.cli_show.specs.internal.Reports.{page_at}
use Rattle.cli_show.proofs.RunsOfPages.{alone, other_written}
use Rattle.cli_show.proofs.report.add_page.Goals as goal

pub returns-in-Some : goal.returns-in-Some
returns-in-Some g c begin pages were =
    let run = c.in-Some.grown in
    other_written begin (g.W.Write.contents c.args.out.now) c.args.runs (Some run) pages (page_at c.args.page c.args.here) were
    (append-nil (pages_of run) ∙ c.in-Some.ensures.pages) c.in-Some.ensures.some

pub returns : goal.returns
returns g c begin pages were =
    let now = c.in_ok-written.ensures begin pages were in
    let more = page_at c.args.page c.args.here in
    other_written begin (g.W.Write.contents c.write_last.new.out) c.in_ok-written.written c.begun_by.result pages more now.0
    (alone c.in_ok-written.written.last c.begun_by.result more now.1 c.begun_by.ensures.pages) c.begun_by.ensures.some
