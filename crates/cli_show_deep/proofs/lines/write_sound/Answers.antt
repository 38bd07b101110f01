use Rattle.cli_show_deep.proofs.NumberFacts.{number_is}
use Rattle.cli_show_deep.proofs.lines.write_sound.Goals as goal

pub returns-in-Json : goal.returns-in-Json
returns-in-Json g c =
    rw c.in-Json.is (rw (number_is _ _ _ c.number.ensures, number_is _ _ _ c.number-in-Json.ensures, number_is _ _ _ c.number-in-Json-2.ensures, number_is _ _ _ c.number-in-Json-3.ensures, number_is _ _ _ c.number-in-Json-4.ensures, number_is _ _ _ c.number-in-Json-5.ensures, c.in-Json.is) at c.write_facts.ensures)
