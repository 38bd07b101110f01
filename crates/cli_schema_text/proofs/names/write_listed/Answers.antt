use Rattle.std.proofs.Common.{◌++◌, codes, map}
use Rattle.std.specs.Io.KnownBytes.{Appends}
use Rattle.std.proofs.KnownBytes.{Appends-trans}
use Rattle.cli_row_text.specs.Inserts.{columns_text}
use Rattle.cli_row_text.specs.Lines.{between_marks}
use Rattle.cli_row_text.proofs.TextsOfValues.{on_ok}
use Rattle.cli_schema_text.proofs.names.write_listed.Goals as goal

pub returns : goal.returns
returns g c =
    let old = g.W.Write.contents c.args.out.now in
    let begun = g.W.Write.contents c.write_all.new.self in
    let named = g.W.Write.contents c.write_between.new.out in
    let listed = g.W.Write.contents c.write_others.new.out in
    let new = g.W.Write.contents c.write_all-2.new.self in
    let first = between_marks 34 c.args.first.now in
    let others = columns_text (map (λ n. n.items) c.args.others.now) in
    let end = codes ");\n" in
    on_ok c.write_all-2.result (Appends listed new end) (Appends old new (codes "(" ++ (first ++ (others ++ end))))
    (λ last. Appends-trans old begun new (codes "(") (first ++ (others ++ end)) c.in_ok-write_all.ensures.bytes
    (Appends-trans begun named new first (others ++ end) c.in_ok-write_between.ensures (Appends-trans named listed new others end c.in_ok-write_others.ensures last))) c.write_all-2.ensures.bytes
