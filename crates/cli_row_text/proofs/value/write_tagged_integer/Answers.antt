use Rattle.std.proofs.Common.{◌++◌, codes, subst, rules, SFits, w64, to_z-of_z}
use Rattle.std.specs.Fmt.{signed_decimal}
use Rattle.std.specs.Io.KnownBytes.{Appends}
use Rattle.std.proofs.KnownBytes.{Appends-trans}
use Rattle.cli_row_text.specs.Lines.{tagged_integer}
use Rattle.cli_row_text.proofs.TextsOfValues.{on_ok}
use Rattle.cli_row_text.proofs.value.write_tagged_integer.Goals as goal

pub returns : goal.returns
returns g c =
    let old = g.W.Write.contents c.args.out.now in
    let begun = g.W.Write.contents c.write_all.new.self in
    let mid = g.W.Write.contents c.write_number.new.out in
    let new = g.W.Write.contents c.write_all-2.new.self in
    let digits = signed_decimal c.args.number in
    let fits : SFits w64 c.args.number = search rules in
    let same = to_z-of_z fits in
    let written = subst (λ n. Appends begun mid (signed_decimal n)) same c.in_ok-write_number.ensures in
    on_ok c.write_all-2.result (Appends mid new (codes "\"}")) (Appends old new (tagged_integer c.args.number))
    (λ last. Appends-trans old begun new (codes "{\"integer\":\"") (digits ++ codes "\"}") c.in_ok-write_all.ensures.bytes (Appends-trans begun mid new digits (codes "\"}") written last)) c.write_all-2.ensures.bytes
