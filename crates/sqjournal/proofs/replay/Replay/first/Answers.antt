use Rattle.std.proofs.Common.{arith}
use Rattle.sqjournal.proofs.read.JournalOfTakenBytes.{cold_short}
use Rattle.sqjournal.proofs.read.BytesTakenByReplay.{unjudged_of, judged_of, taken_of}
use Rattle.sqjournal.proofs.replay.Replay.first.Goals as goal

pub returns-in_err-reading : goal.returns-in_err-reading
returns-in_err-reading c = λ b t. rw c.from_residual.ensures (cold_short b (unjudged_of b c.args.self.now t c.in_err-reading.was).short)

pub returns-then-self-from : goal.returns-then-self-from
returns-then-self-from c = λ b t.
    let j = judged_of b c.args.self.now c.in_ok-reading.reading t c.in_ok-reading.was in
    λ hot. omega (arith, hot.whole, j.stands.names.sector, taken_of b c.args.self.now t)

pub returns : goal.returns
returns c = λ b t.
    let j = judged_of b c.args.self.now c.in_ok-reading.reading t c.in_ok-reading.was in
    (record { first = j.stands.first; whole = omega (arith, j.stands.names.sector, taken_of b c.args.self.now t) }, j.stands.names)
