use Rattle.std.proofs.Common.{◌∷◌, ◌++◌, codes, map}
use Rattle.std.specs.Io.KnownBytes.{Appends}
use Rattle.std.proofs.KnownBytes.{Appends-trans}
use Rattle.cli_row_text.specs.Inserts.{columns_text}
use Rattle.cli_row_text.specs.Lines.{between_marks}
use Rattle.cli_row_text.proofs.TextsOfValues.{on_ok}
use Rattle.cli_schema_text.specs.Names.{fallback_text}
use Rattle.cli_schema_text.proofs.names.write_making.Goals as goal

pub returns : goal.returns
returns g c =
    let old = g.W.Write.contents c.args.out.now in
    let begun = g.W.Write.contents c.write_all.new.self in
    let named = g.W.Write.contents c.write_between.new.out in
    let new = g.W.Write.contents c.write_listed.new.out in
    let others = map (λ n. n.items) c.args.others.now in
    let table = between_marks 34 c.args.table.now in
    let list = codes "(" ++ (between_marks 34 c.args.first.now ++ (columns_text others ++ codes ");\n")) in
    on_ok c.write_listed.result (Appends named new list) (Appends old new (fallback_text c.args.table.now (c.args.first.now ∷ others)))
    (λ last. Appends-trans old begun new (codes "CREATE TABLE IF NOT EXISTS ") (table ++ list) c.in_ok-write_all.ensures.bytes
    (Appends-trans begun named new table list c.in_ok-write_between.ensures last)) c.write_listed.ensures
