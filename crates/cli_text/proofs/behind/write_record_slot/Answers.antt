use Rattle.cli_text.proofs.NumberFacts.{number_is}
use Rattle.cli_text.proofs.behind.write_record_slot.Goals as goal

pub returns : goal.returns
returns g c = rw (number_is _ _ _ c.number.ensures, c.saturating_add.ensures, c.follows_name.ensures) at c.write_facts.ensures
