use Rattle.std.proofs.Common.{codes}
use Rattle.std.specs.Fmt.{decimal}
use Rattle.hex.specs.Hex.{encode_lower}
use Rattle.cli_show.proofs.PartsOfReports.{values_between}
use Rattle.cli_show.proofs.report.write_front.Goals as goal

pub returns : goal.returns
returns g c =
    values_between c.write-2.result (g.W.Write.contents c.args.out.now) (g.W.Write.contents c.write.new.self) (g.W.Write.contents c.write_hex.new.out)
    (g.W.Write.contents c.write-2.new.self) (codes "{\"version\":\"") c.args.version.now (codes "\",\"file\":\"") (encode_lower c.args.file.now)
    (codes "\",\n\"page size\":") (decimal c.args.size) (codes ",\n\"verdict\":")
    c.in_ok-write.ensures.bytes (rw c.as_bytes.ensures.value at c.in_ok-write_hex.ensures) c.write-2.ensures.bytes
