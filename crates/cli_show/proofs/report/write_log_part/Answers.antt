use Rattle.std.proofs.Common.{codes}
use Rattle.cli_show.specs.Reports.{IsLogObject}
use Rattle.cli_show.proofs.PartsOfReports.{part_between}
use Rattle.cli_show.proofs.report.write_log_part.Goals as goal

pub returns : goal.returns
returns g c limits wal journal found =
    part_between c.write_all-2.result (IsLogObject limits.frames wal journal c.args.log.now) (g.W.Write.contents c.args.out.now)
    (g.W.Write.contents c.write_all.new.self) (g.W.Write.contents c.write_log_facts.new.out) (g.W.Write.contents c.write_all-2.new.self)
    (codes "\"log\":") (codes "}\n") c.in_ok-write_all.ensures.bytes (c.in_ok-write_log_facts.ensures limits wal journal found)
    c.write_all-2.ensures.bytes
