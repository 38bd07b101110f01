use Rattle.std.proofs.Common.{refl, arith}
use Rattle.sqrescue_c.proofs.CopiedFrames.{one_more}
use Rattle.sqrescue_c.proofs.wal.copy_frames.Goals as goal

pub loop-i-preserved : goal.loop-i-preserved
loop-i-preserved c = one_more c.args.entries.now c.loop-i.frames c.loop-i.i _ (omega arith) refl c.loop-i.invariant
