use Rattle.sqkeys.proofs.TextsRead.{reads_none}
use Rattle.sqkeys.proofs.text.either_text.Goals as goal

pub returns-in-None : goal.returns-in-None
returns-in-None c = reads_none c.args.text.now (rw c.in-None.is at c.in_ok-made.ensures)
