use Rattle.std.proofs.Common.{◌++◌, codes}
use Rattle.std.specs.Io.KnownBytes.{Appends}
use Rattle.std.proofs.KnownBytes.{Appends-trans}
use Rattle.cli_row_text.specs.Lines.{between_marks}
use Rattle.cli_change_text.specs.Heads.{removal_start}
use Rattle.cli_change_text.proofs.Answered.{on_ok}
use Rattle.cli_change_text.proofs.heads.write_removal_start.Goals as goal

pub returns : goal.returns
returns g c =
    let old = g.W.Write.contents c.args.out.now in
    let begun = g.W.Write.contents c.write_all.new.self in
    let named = g.W.Write.contents c.write_between.new.out in
    let new = g.W.Write.contents c.write_all-2.new.self in
    let table = between_marks 34 c.args.table.now in
    on_ok c.write_all-2.result (Appends named new (codes " WHERE ")) (Appends old new (removal_start c.args.table.now))
    (λ last. Appends-trans old begun new (codes "DELETE FROM ") (table ++ codes " WHERE ") c.in_ok-write_all.ensures.bytes
    (Appends-trans begun named new table (codes " WHERE ") c.in_ok-write_between.ensures last))
    c.write_all-2.ensures.bytes
