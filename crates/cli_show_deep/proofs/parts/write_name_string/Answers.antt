use Rattle.std.proofs.Common.{rules, ◌≡◌, ℕ, List, true, false, sym, subst}
use Rattle.std.specs.Prelude.{IsTrue, OnOk}
use Rattle.std.specs.Io.KnownBytes.{Appends}
use Rattle.cli_show_deep.proofs.NamesOfObjects.{hex_name, utf8_name}
use Rattle.cli_show_deep.proofs.parts.write_name_string.Goals as goal

pub returns-then-is_text : goal.returns-then-is_text
returns-then-is_text g c =
    let written = g.W.Write.contents in
    let yes : IsTrue c.is_text.result = search rules in
    subst (λ (text : List ℕ). OnOk c.write_string.result (Appends (written c.args.out.now) (written c.write_string.new.out) text))
    (sym (utf8_name c.args.name.now (c.is_text.ensures.0 yes))) c.write_string.ensures

pub returns-else-is_text : goal.returns-else-is_text
returns-else-is_text g c =
    let written = g.W.Write.contents in
    let no : c.is_text.result ≡ false = search rules in
    subst (λ (text : List ℕ). OnOk c.write_hex_string.result (Appends (written c.args.out.now) (written c.write_hex_string.new.out) text))
    (sym (hex_name c.args.name.now (λ is. let yes = c.is_text.ensures.1 is in cc))) c.write_hex_string.ensures
