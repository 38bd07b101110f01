use Rattle.std.proofs.Common.{arith}
use Rattle.sqlocks.proofs.LogParts.{front_in_log}
use Rattle.sqlocks.proofs.index.names_front.Goals as goal

pub returns : goal.returns
returns c = λ w h f. front_in_log c.args.head.now w c.args.header.now c.args.frame.now h f (omega arith) (omega arith) _ c.is_named.ensures
