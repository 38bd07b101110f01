use Rattle.std.proofs.Common.{List, ℕ, ◌++◌, codes, subst}
use Rattle.std.specs.Io.KnownBytes.{Appends}
use Rattle.std.proofs.KnownBytes.{Appends-trans}
use Rattle.std.proofs.lemmas.Result.{on_ok_weaker}
use Rattle.cli_row_text.specs.Lines.{hex_literal}
use Rattle.cli_show_salvage.specs.Marks.{place_text, size_text}
use Rattle.cli_show_salvage.proofs.marks.write_mark.Goals as goal

pub returns : goal.returns
returns g c =
    let cell = c.args.cell.now in
    let old = g.W.Write.contents c.args.out.now in
    let placed = g.W.Write.contents c.write_place.new.out in
    let sized = g.W.Write.contents c.write_size.new.out in
    let told = g.W.Write.contents c.write_all.new.self in
    let colon = g.W.Write.contents c.write_all-2.new.self in
    let literal = g.W.Write.contents c.write_literal.new.out in
    let new = g.W.Write.contents c.write_all-3.new.self in
    let why = c.args.why.now in
    let bytes = hex_literal c.args.bytes.now in
    let why_is = subst (λ (xs : List ℕ). Appends sized told xs) c.as_bytes.ensures.value c.in_ok-write_all.ensures.bytes in
    on_ok_weaker c.write_all-3.result (λ last.
    let four = Appends-trans colon literal new bytes (codes "\n") c.in_ok-write_literal.ensures last in
    let three = Appends-trans told colon new (codes ": ") (bytes ++ codes "\n") c.in_ok-write_all-2.ensures.bytes four in
    let two = Appends-trans sized told new why (codes ": " ++ (bytes ++ codes "\n")) why_is three in
    let one = Appends-trans placed sized new (size_text cell) (why ++ (codes ": " ++ (bytes ++ codes "\n"))) c.in_ok-write_size.ensures two in
    Appends-trans old placed new (place_text cell.page c.args.i) (size_text cell ++ (why ++ (codes ": " ++ (bytes ++ codes "\n")))) c.in_ok-write_place.ensures one) c.write_all-3.ensures.bytes
