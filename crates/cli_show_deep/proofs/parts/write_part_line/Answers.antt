use Rattle.std.proofs.Common.{◌++◌, codes}
use Rattle.cli_show_deep.specs.Parts.{line_head, nevers_text, shares_text}
use Rattle.cli_show_deep.proofs.ThingsJoined.{appends_two}
use Rattle.cli_show_deep.proofs.parts.write_part_line.Goals as goal

pub returns : goal.returns
returns g c =
    let written = g.W.Write.contents in
    let end = written c.write_all.new.self in
    let all = c.args.all.now in
    let shares = shares_text c.args.schema.now all in
    appends_two c.write_all.result (written c.args.out.now) (written c.write_line_head.new.out) end (line_head c.args.report.now) (shares ++ (nevers_text all ++ codes "\n")) c.in_ok-write_line_head.ensures
    (appends_two c.write_all.result (written c.write_line_head.new.out) (written c.write_shares.new.out) end shares (nevers_text all ++ codes "\n") c.in_ok-write_shares.ensures
    (appends_two c.write_all.result (written c.write_shares.new.out) (written c.write_nevers.new.out) end (nevers_text all) (codes "\n") c.in_ok-write_nevers.ensures c.write_all.ensures.bytes))
