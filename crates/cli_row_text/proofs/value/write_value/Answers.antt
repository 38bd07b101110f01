use Rattle.cli_row_text.proofs.value.write_value.Goals as goal

pub returns-in-Text : goal.returns-in-Text
returns-in-Text g c = rw c.in-Text.is c.write_text.ensures
