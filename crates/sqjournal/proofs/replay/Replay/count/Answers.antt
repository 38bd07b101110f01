use Rattle.std.proofs.Common.{length, ap}
use Rattle.sqjournal.proofs.read.BytesTakenByReplay.{has_count}
use Rattle.sqjournal.proofs.replay.Replay.count.Goals as goal

pub returns : goal.returns
returns c = λ b t. has_count b c.args.self.now _ t (ap (λ l. length l) c.as_slice.ensures.value)
