use Rattle.sqindex.proofs.BodiesOfEntries.{start_is}
use Rattle.sqindex.proofs.entries.start_of.Goals as goal

pub returns : goal.returns
returns c = start_is c.args.body.now c.word.result c.word.ensures
