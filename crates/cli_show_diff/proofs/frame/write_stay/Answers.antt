use Rattle.std.proofs.Common.{codes, true}
use Rattle.std.specs.Io.KnownBytes.{Appends}
use Rattle.std.proofs.KnownBytes.{Appends-trans}
use Rattle.cli_schema_text.specs.Comments.{hex_line}
use Rattle.cli_show_diff.specs.Frames.{drop_trigger}
use Rattle.cli_show_diff.proofs.Answered.{on_ok}
use Rattle.cli_show_diff.proofs.frame.write_stay.Goals as goal

pub returns : goal.returns
returns g c =
    let old = g.W.Write.contents c.args.out.now in
    let begun = g.W.Write.contents c.write_all.new.self in
    let new = g.W.Write.contents c.write_hex_name.new.out in
    let name = c.args.name.now in
    on_ok c.write_hex_name.result (Appends begun new (hex_line name)) (Appends old new (drop_trigger true name))
    (λ last. Appends-trans old begun new (codes "-- not dropped, its new text isn't printed") (hex_line name) c.in_ok-write_all.ensures.bytes last) c.write_hex_name.ensures
