-- Facts of numbers.
use Rattle.std.proofs.Common.{◌≡◌, ℕ, ap, ◌∙◌, Bor, List}
use Rattle.cli_text.specs.declared.fact.Fact.{Fact}
use Rattle.cli_text.specs.declared.fact.Fact.TheVariants.{Number}

-- a number that was converted is the number
pub number_is : (fact : Fact) (word : Bor (List ℕ)) (m : ℕ) → ((n : ℕ) × (n ≡ m) × (fact ≡ Number word n)) → fact ≡ Number word m
number_is fact word m found = found.2 ∙ ap (Number word) found.1
