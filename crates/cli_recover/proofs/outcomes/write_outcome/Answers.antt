use Rattle.std.proofs.Common.{◌≡◌, ℕ, List, Bor, ap, ◌∙◌}
use Rattle.cli_text.specs.declared.fact.Fact.{Fact}
use Rattle.cli_text.specs.declared.fact.Fact.TheVariants.{Number}
use Rattle.cli_recover.proofs.outcomes.write_outcome.Goals as goal

-- a number that was converted is the number
number_is : (fact : Fact) (word : Bor (List ℕ)) (m : ℕ) → ((n : ℕ) × (n ≡ m) × (fact ≡ Number word n)) → fact ≡ Number word m
number_is fact word m found = found.2 ∙ ap (Number word) found.1

pub returns-in-Json-NoFront : goal.returns-in-Json-NoFront
returns-in-Json-NoFront g c = rw (c.in-Json-NoFront.is-0, c.in-Json-NoFront.is-1) (rw c.in-Json-NoFront.is-0 at c.write_facts-in-Json-NoFront.ensures)

pub returns-in-Json-Folded : goal.returns-in-Json-Folded
returns-in-Json-Folded g c =
    rw (c.in-Json-Folded.is-0, c.in-Json-Folded.is-1) (rw (number_is _ _ _ c.number.ensures, number_is _ _ _ c.number-in-Json-Folded.ensures, c.in-Json-Folded.is-0) at c.write_facts-in-Json-Folded.ensures)
