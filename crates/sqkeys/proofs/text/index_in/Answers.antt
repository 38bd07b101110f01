use Rattle.sqkeys.proofs.TextsRead.{index_read}
use Rattle.sqkeys.proofs.text.index_in.Goals as goal

pub returns : goal.returns
returns c = index_read c.args.text.now c.made_index.result c.made_index.ensures.found c.made_index.ensures.only
