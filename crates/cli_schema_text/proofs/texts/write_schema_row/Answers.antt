use Rattle.std.proofs.Common.{◌++◌, codes}
use Rattle.std.specs.Io.KnownBytes.{Appends}
use Rattle.std.proofs.KnownBytes.{Appends-trans}
use Rattle.cli_row_text.proofs.TextsOfValues.{on_ok}
use Rattle.cli_schema_text.specs.Texts.{cast_text, schema_row_text}
use Rattle.cli_schema_text.proofs.texts.write_schema_row.Goals as goal

pub returns : goal.returns
returns g c =
    let old = g.W.Write.contents c.args.out.now in
    let begun = g.W.Write.contents c.write_all.new.self in
    let named = g.W.Write.contents c.write_row_start.new.out in
    let texted = g.W.Write.contents c.write_cast.new.out in
    let new = g.W.Write.contents c.write_all-2.new.self in
    let on = codes "PRAGMA writable_schema=ON;\nINSERT OR ABORT INTO sqlite_schema(type,name,tbl_name,rootpage,sql) VALUES('table'," in
    let name = cast_text c.args.name.now in
    let start = name ++ (codes "," ++ (name ++ codes ",0,")) in
    let sql = cast_text c.args.sql.now in
    let off = codes ");\nPRAGMA writable_schema=OFF;\n" in
    on_ok c.write_all-2.result (Appends texted new off) (Appends old new (schema_row_text c.args.name.now c.args.sql.now))
    (λ last. Appends-trans old begun new on (start ++ (sql ++ off)) c.in_ok-write_all.ensures.bytes
    (Appends-trans begun named new start (sql ++ off) c.in_ok-write_row_start.ensures (Appends-trans named texted new sql off c.in_ok-write_cast.ensures last))) c.write_all-2.ensures.bytes
