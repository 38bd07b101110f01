use Rattle.std.proofs.Common.{codes}
use Rattle.cli_show.specs.Reports.{IsHeadText}
use Rattle.cli_show.proofs.PartsOfReports.{part_between}
use Rattle.cli_show.proofs.report.write_header_part.Goals as goal

pub returns : goal.returns
returns g c =
    part_between c.write_all-2.result (IsHeadText c.args.head.now) (g.W.Write.contents c.args.out.now) (g.W.Write.contents c.write_all.new.self)
    (g.W.Write.contents c.write_head.new.out) (g.W.Write.contents c.write_all-2.new.self) (codes ",\"header\":{") (codes "},\n")
    c.in_ok-write_all.ensures.bytes c.in_ok-write_head.ensures c.write_all-2.ensures.bytes
