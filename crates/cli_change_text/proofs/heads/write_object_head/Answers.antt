use Rattle.std.proofs.Common.{◌++◌, codes}
use Rattle.std.specs.Io.KnownBytes.{Appends}
use Rattle.std.proofs.KnownBytes.{Appends-trans}
use Rattle.cli_row_text.specs.Lines.{json_string}
use Rattle.cli_change_text.specs.Heads.{object_head, opening_text}
use Rattle.cli_change_text.proofs.Answered.{on_ok}
use Rattle.cli_change_text.proofs.heads.write_object_head.Goals as goal

pub returns : goal.returns
returns g c =
    let old = g.W.Write.contents c.args.out.now in
    let begun = g.W.Write.contents c.write_opening.new.out in
    let named = g.W.Write.contents c.write_string.new.out in
    let new = g.W.Write.contents c.write_all.new.self in
    let name = json_string c.args.table.now in
    let end = codes ",\"change\":\"" in
    on_ok c.write_all.result (Appends named new end) (Appends old new (object_head c.args.commit c.args.table.now))
    (λ last. Appends-trans old begun new (opening_text c.args.commit) (name ++ end) c.in_ok-write_opening.ensures (Appends-trans begun named new name end c.in_ok-write_string.ensures last))
    c.write_all.ensures.bytes
