use Rattle.std.proofs.Common.{◌++◌, codes, map}
use Rattle.std.specs.Io.KnownBytes.{Appends}
use Rattle.std.proofs.KnownBytes.{Appends-trans}
use Rattle.cli_row_text.specs.Inserts.{columns_listed, insert_text, rowid_name}
use Rattle.cli_row_text.specs.Lines.{between_marks}
use Rattle.cli_row_text.proofs.TextsOfValues.{on_ok}
use Rattle.cli_row_text.proofs.insert.write_insert.Goals as goal

pub returns : goal.returns
returns g c =
    let old = g.W.Write.contents c.args.out.now in
    let begun = g.W.Write.contents c.write_all.new.self in
    let named = g.W.Write.contents c.write_between.new.out in
    let listed = g.W.Write.contents c.write_columns.new.out in
    let new = g.W.Write.contents c.write_all-2.new.self in
    let names = map (λ n. n.items) c.args.names.now in
    let table = between_marks 34 c.args.table.now in
    let columns = columns_listed (rowid_name c.args.rowid) names in
    let end = codes " VALUES(" in
    on_ok c.write_all-2.result (Appends listed new end) (Appends old new (insert_text c.args.table.now (rowid_name c.args.rowid) names))
    (λ last. Appends-trans old begun new (codes "INSERT OR ABORT INTO ") (table ++ (columns ++ end)) c.in_ok-write_all.ensures.bytes
    (Appends-trans begun named new table (columns ++ end) c.in_ok-write_between.ensures (Appends-trans named listed new columns end c.in_ok-write_columns.ensures last))) c.write_all-2.ensures.bytes
