use Rattle.std.proofs.Common.{◌≡◌, ◌||◌, Bool, ℕ, ◌==◌, ◌++◌, ◌∙◌, length, ap, sym, arith}
use Rattle.std.specs.Char.{encode_utf8}
use Rattle.std.proofs.lemmas.Grind.{common_steps}
use Rattle.std.proofs.lemmas.List.Folds.{list_any-append}
use Rattle.sqtext.specs.Texts.{has_nul_or_cr}
use Rattle.sqtext.proofs.TextsRead.{read_all, read_more, read_off}
use Rattle.sqtext.proofs.text.utf16_has_nul_or_cr.Goals as goal

pub returns-in-None : goal.returns-in-None
returns-in-None c = read_off c.args.big c.args.bytes.now c.chars.rest.now c.chars.invariant.done (λ none. grind (arith, common_steps, none)) c.in-None.ensures c.chars.invariant.read

pub chars-preserved : goal.chars-preserved
chars-preserved c =
    let i = c.chars.invariant in
    let e = c.in-Some.ensures in
    let char = c.in-Some.split.0 in
    record {
      done = i.done ++ encode_utf8 char;
      read = read_more c.args.big c.args.bytes.now c.chars.rest.now c.in-Some.split.1.now i.done char e.0 e.1 i.read;
      found = c.found_or_is-found.ensures ∙ ap (λ (z : Bool). z || has_nul_or_cr (encode_utf8 char)) i.found ∙ sym (list_any-append (λ b. b == 0 || b == 13) i.done (encode_utf8 char));
    }

pub returns : goal.returns
returns c =
    let i = c.chars.invariant in
    let none : length c.chars.rest.now ≡ 0 = grind (arith, common_steps) in
    (i.done, read_all c.args.big c.args.bytes.now c.chars.rest.now i.done none i.read, i.found)
