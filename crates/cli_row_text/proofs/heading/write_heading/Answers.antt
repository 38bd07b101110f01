use Rattle.std.proofs.Common.{◌++◌, codes, map, subst, sym}
use Rattle.std.specs.Io.KnownBytes.{Appends}
use Rattle.std.proofs.KnownBytes.{Appends-trans}
use Rattle.cli_row_text.specs.declared.form.Notation.{Notation}
use Rattle.cli_row_text.specs.declared.form.Notation.TheVariants.{Json}
use Rattle.cli_row_text.specs.Headings.{heading_text, names_listed}
use Rattle.cli_row_text.specs.Lines.{json_string}
use Rattle.cli_row_text.proofs.TextsOfValues.{on_ok}
use Rattle.cli_row_text.proofs.heading.write_heading.Goals as goal

pub returns-in_ok-write_listed-in-Json : goal.returns-in_ok-write_listed-in-Json
returns-in_ok-write_listed-in-Json g c =
    let old = g.W.Write.contents c.args.out.now in
    let begun = g.W.Write.contents c.write_all.new.self in
    let named = g.W.Write.contents c.write_string.new.out in
    let marked = g.W.Write.contents c.write_all-in-Json.new.self in
    let listed = g.W.Write.contents c.write_listed.new.out in
    let new = g.W.Write.contents c.write_all-in-Json-2.new.self in
    let names = map (λ n. n.items) c.args.names.now in
    let table = json_string c.args.table.now in
    let columns = names_listed Json names in
    let mark = codes ",\"columns\":[" in
    let end = codes "]}\n" in
    let Listed : Notation → Type 0 = λ notation. Appends marked listed (names_listed notation names) in
    let Whole : Notation → Type 0 = λ notation. Appends old new (heading_text notation c.args.table.now names) in
    on_ok c.write_all-in-Json-2.result (Appends listed new end) (Whole c.args.notation)
    (λ last. subst Whole (sym c.in-Json.is)
    (Appends-trans old begun new (codes "{\"table\":") (table ++ (mark ++ (columns ++ end))) c.in_ok-write_all-in-Json.ensures.bytes
    (Appends-trans begun named new table (mark ++ (columns ++ end)) c.in_ok-write_string-in-Json.ensures
    (Appends-trans named marked new mark (columns ++ end) c.in_ok-write_all-in-Json-2.ensures.bytes
    (Appends-trans marked listed new columns end (subst Listed c.in-Json.is c.in_ok-write_listed-in-Json.ensures) last))))) c.write_all-in-Json-2.ensures.bytes
