use Rattle.std.proofs.Common.{◌++◌, codes, false}
use Rattle.std.specs.Io.KnownBytes.{Appends}
use Rattle.std.proofs.KnownBytes.{Appends-trans}
use Rattle.cli_row_text.specs.Lines.{between_marks}
use Rattle.cli_show_diff.specs.Frames.{drop_trigger}
use Rattle.cli_show_diff.proofs.Answered.{on_ok}
use Rattle.cli_show_diff.proofs.frame.write_drop.Goals as goal

pub returns : goal.returns
returns g c =
    let old = g.W.Write.contents c.args.out.now in
    let begun = g.W.Write.contents c.write_all.new.self in
    let named = g.W.Write.contents c.write_between.new.out in
    let new = g.W.Write.contents c.write_all-2.new.self in
    let name = between_marks 34 c.args.name.now in
    on_ok c.write_all-2.result (Appends named new (codes ";\n")) (Appends old new (drop_trigger false c.args.name.now))
    (λ last. Appends-trans old begun new (codes "DROP TRIGGER ") (name ++ codes ";\n") c.in_ok-write_all.ensures.bytes (Appends-trans begun named new name (codes ";\n") c.in_ok-write_between.ensures last))
    c.write_all-2.ensures.bytes
