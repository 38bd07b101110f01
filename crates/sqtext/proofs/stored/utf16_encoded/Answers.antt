use Rattle.std.proofs.Common.{◌≡◌, ℕ, List, ap, sym, ◌∙◌}
use Rattle.std.specs.Str.{all_scalars, chars, encode_utf8_all}
use Rattle.std.proofs.lemmas.List.{map-id}
use Rattle.std.proofs.lemmas.Str.{encodes-chars, scalars-chars}
use Rattle.std.proofs.lemmas.Iterator.{YieldsList-from_chars}
use Rattle.std.proofs.lemmas.Iterator.Consumers.{YieldsList-end}
use Rattle.sqtext.proofs.stored.utf16_encoded.Goals as goal

pub returns : goal.returns
returns c =
    let text = c.args.text.now in
    let t = YieldsList-end (YieldsList-from_chars text c.utf8.text cc) c.loop-c.yielded _ c.loop-c.yielded_by _ _ c.in-None.is c.next.ensures.steps in
    let is : c.loop-c.yielded ≡ chars text = sym (map-id c.loop-c.yielded) ∙ t.0 in
    (c.loop-c.yielded, ap (λ (cs : List ℕ). all_scalars cs) is ∙ scalars-chars text c.utf8.text, sym c.loop-c.invariant, ap (λ (cs : List ℕ). encode_utf8_all cs) is ∙ encodes-chars text c.utf8.text)
