use Rattle.std.proofs.Common.{arith}
use Rattle.cli_show.proofs.RunsOfPages.{run_more}
use Rattle.cli_show.proofs.report.LoggedRun.grown.Goals as goal

pub returns-clause-pages : goal.returns-clause-pages
returns-clause-pages c =
    let run = c.args.self.now in
    run_more run.page run.at run.count c.in_ok-checked_add-3.field-0 c.args.page c.args.at (omega arith) (omega arith) (omega arith)
