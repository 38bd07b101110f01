use Rattle.std.proofs.Common.{◌++◌, codes}
use Rattle.std.specs.Io.KnownBytes.{Appends}
use Rattle.std.proofs.KnownBytes.{Appends-trans}
use Rattle.cli_row_text.proofs.TextsOfValues.{on_ok}
use Rattle.cli_schema_text.specs.Texts.{cast_text}
use Rattle.cli_schema_text.proofs.texts.write_row_start.Goals as goal

pub returns : goal.returns
returns g c =
    let old = g.W.Write.contents c.args.out.now in
    let first = g.W.Write.contents c.write_cast.new.out in
    let comma = g.W.Write.contents c.write_all.new.self in
    let second = g.W.Write.contents c.write_cast-2.new.out in
    let new = g.W.Write.contents c.write_all-2.new.self in
    let name = cast_text c.args.name.now in
    let end = codes ",0," in
    on_ok c.write_all-2.result (Appends second new end) (Appends old new (name ++ (codes "," ++ (name ++ end))))
    (λ last. Appends-trans old first new name (codes "," ++ (name ++ end)) c.in_ok-write_cast.ensures
    (Appends-trans first comma new (codes ",") (name ++ end) c.in_ok-write_all.ensures.bytes (Appends-trans comma second new name end c.in_ok-write_cast-2.ensures last))) c.write_all-2.ensures.bytes
