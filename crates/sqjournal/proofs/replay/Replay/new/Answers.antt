use Rattle.std.proofs.Common.{[], refl, arith}
use Rattle.sqjournal.proofs.read.BytesTakenByReplay.{took_unjudged}
use Rattle.sqjournal.proofs.replay.Replay.new.Goals as goal

pub returns : goal.returns
returns c = took_unjudged [] _ refl refl (omega arith) c.new.ensures.items c.new-2.ensures.items
