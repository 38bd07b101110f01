use Rattle.cli_files.specs.Files.{opened_bytes}
use Rattle.cli_report.proofs.ReportsOfFiles.{begun_as}
use Rattle.cli_report.proofs.reports.make_page.Goals as goal

pub returns-clause-begun : goal.returns-clause-begun
returns-clause-begun g c =
    begun_as (opened_bytes g.R.File.SystemFile.bytes) c.args.of.0.now c.in_ok-made.made c.in_ok-made.ensures.begun.0 c.made_whole.result c.in_ok-made.ensures.begun.1
