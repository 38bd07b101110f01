use Rattle.std.proofs.Common.{◌≡◌, ◌++◌, ℕ, List, length, subst, sym, arith}
use Rattle.std.specs.Char.{encode_utf8}
use Rattle.std.specs.Io.KnownBytes.{Appends}
use Rattle.std.specs.List.{flat_map}
use Rattle.std.proofs.lemmas.Grind.{common_steps}
use Rattle.sqtext.proofs.TextsRead.{read_more, read_out, read_over}
use Rattle.cli_row_text.specs.internal.Quoting.{byte_text}
use Rattle.cli_row_text.proofs.CharsWritten.{chars_more}
use Rattle.cli_row_text.proofs.value.write_chars.Goals as goal

pub returns-in-None : goal.returns-in-None
returns-in-None g c = λ text is.
    let i = c.chars.invariant in
    let all = read_over c.args.big c.args.bytes.now c.chars.rest.now i.done text c.in-None.ensures i.read is in
    subst (λ (t : List ℕ). Appends (g.W.Write.contents c.args.out.now) (g.W.Write.contents c.chars.out) (flat_map (byte_text c.args.notation) t)) (sym all) i.written

pub chars-preserved : goal.chars-preserved
chars-preserved g c =
    let i = c.chars.invariant in
    let e = c.in-Some.ensures in
    let char = c.in-Some.found.0 in
    record {
      done = i.done ++ encode_utf8 char;
      read = read_more c.args.big c.args.bytes.now c.chars.rest.now c.in-Some.found.1.now i.done char e.0 e.1 i.read;
      written = chars_more (byte_text c.args.notation) i.done (encode_utf8 char) (g.W.Write.contents c.args.out.now) (g.W.Write.contents c.chars.out) (g.W.Write.contents c.write_char.new.out) i.written c.in_ok-write_char.ensures;
    }

pub returns : goal.returns
returns g c = λ text is.
    let i = c.chars.invariant in
    let none : length c.chars.rest.now ≡ 0 = grind (arith, common_steps) in
    let all = read_out c.args.big c.args.bytes.now c.chars.rest.now i.done text none i.read is in
    subst (λ (t : List ℕ). Appends (g.W.Write.contents c.args.out.now) (g.W.Write.contents c.chars.out) (flat_map (byte_text c.args.notation) t)) (sym all) i.written
