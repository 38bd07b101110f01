use Rattle.sqpage.proofs.btree.MarksOnBytes.{run_of_bits}
use Rattle.sqpage.proofs.layout.bits_between.Goals as goal

pub returns : goal.returns
returns c = run_of_bits c.args.low c.args.high c.requires.order c.requires.most
