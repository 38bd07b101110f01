use Rattle.std.proofs.Common.{◌≡◌, ◌<◌, ℕ, get_or}
use Rattle.sqrescue_c.specs.internal.Logs.{frame_of, no_entry}
use Rattle.sqrescue_c.specs.declared.wal.Frame.{Frame}
use Rattle.sqrescue_c.proofs.wal.copy_frames.Given as goal

abbrev pub invariant-loop-i : goal.invariant-loop-i
invariant-loop-i l = (k : ℕ) (d : Frame) → k < l.i → get_or l.frames k d ≡ frame_of (get_or l.entries k no_entry)
