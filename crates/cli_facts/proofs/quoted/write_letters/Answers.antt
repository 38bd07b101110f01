use Rattle.std.proofs.Common.{ℕ, List, ap, sym, ◌∙◌}
use Rattle.std.specs.List.{flat_map}
use Rattle.std.proofs.Output.{has_written_of_eq}
use Rattle.std.proofs.lemmas.List.{map-id}
use Rattle.std.proofs.lemmas.Iterator.{YieldsList-from_chars}
use Rattle.std.proofs.lemmas.Iterator.Consumers.{YieldsList-end}
use Rattle.cli_facts.specs.Quoted.{letter_text}
use Rattle.cli_facts.proofs.quoted.write_letters.Goals as goal

pub returns : goal.returns
returns g c plain ok =
    let t = YieldsList-end (YieldsList-from_chars c.args.name.now c.utf8.name cc) c.loop-letter.yielded _ c.loop-letter.yielded_by _ _ c.in-None.is c.next.ensures.steps in
    has_written_of_eq _ _ _ _ _ (ap (λ (l : List ℕ). flat_map letter_text l) (sym (map-id c.loop-letter.yielded) ∙ t.0)) (c.loop-letter.invariant plain)
