use Rattle.std.proofs.Common.{◌++◌, codes}
use Rattle.std.specs.Fmt.{decimal}
use Rattle.cli_show_deep.specs.Parts.{part_counts}
use Rattle.cli_show_deep.proofs.ThingsJoined.{appends_two}
use Rattle.cli_show_deep.proofs.parts.write_part_head.Goals as goal

pub returns : goal.returns
returns g c =
    let written = g.W.Write.contents in
    appends_two c.write.result (written c.args.out.now) (written c.write_part_counts.new.out) (written c.write.new.self) (part_counts c.args.report.now)
    (decimal c.args.ill_formed ++ codes ",\"not_judged\":[") c.in_ok-write_part_counts.ensures c.write.ensures.bytes
