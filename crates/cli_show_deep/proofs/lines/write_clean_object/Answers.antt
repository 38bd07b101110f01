use Rattle.std.proofs.Common.{◌++◌, codes}
use Rattle.std.specs.Fmt.{decimal}
use Rattle.cli_show_deep.specs.Lines.{clean_counts}
use Rattle.cli_show_deep.proofs.ThingsJoined.{appends_two}
use Rattle.cli_show_deep.proofs.lines.write_clean_object.Goals as goal

pub returns : goal.returns
returns g c =
    let written = g.W.Write.contents in
    appends_two c.writeln.result (written c.args.out.now) (written c.write_clean_counts.new.out) (written c.writeln.new.self) (clean_counts c.args.report.now)
    (decimal c.args.page ++ codes "}\n") c.in_ok-write_clean_counts.ensures c.writeln.ensures.bytes
