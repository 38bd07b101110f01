use Rattle.std.proofs.Common.{◌++◌, map, take}
use Rattle.cli_text.specs.Facts.{joined}
use Rattle.cli_show_deep.specs.Parts.{comma, most_listed, part_end, part_head, thing_text}
use Rattle.cli_show_deep.proofs.ThingsJoined.{appends_two}
use Rattle.cli_show_deep.proofs.parts.write_part_object.Goals as goal

pub returns : goal.returns
returns g c =
    let written = g.W.Write.contents in
    let end = written c.write_part_end.new.out in
    let all = c.args.all.now in
    let things = joined comma (map (thing_text c.args.schema.now) (take most_listed all)) in
    appends_two c.write_part_end.result (written c.args.out.now) (written c.write_part_head.new.out) end (part_head c.args.report.now c.args.ill_formed) (things ++ part_end all) c.in_ok-write_part_head.ensures
    (appends_two c.write_part_end.result (written c.write_part_head.new.out) (written c.write_parts.new.out) end things (part_end all)
    (rw c.first_of.ensures at c.in_ok-write_parts.ensures) c.write_part_end.ensures)
