use Rattle.std.proofs.Common.{◌≡◌, ◌-◌, ◌≤◌, length}
use Rattle.sqpast.proofs.known.BytesInPieces.{SameTo}
use Rattle.sqpast.proofs.likeness.is_part.Given as goal

abbrev pub invariant-loop-done : goal.invariant-loop-done
invariant-loop-done g l = record {
  within : l.done ≤ length l.bytes;
  right : g.F.FileBytes.reads_right l.fn.file → g.F.FileBytes.reads_right l.file;
  gives : g.F.FileBytes.gives_bytes l.fn.file → g.F.FileBytes.gives_bytes l.file;
  same_bytes : g.F.FileBytes.bytes l.file ≡ g.F.FileBytes.bytes l.fn.file;
  same : g.F.FileBytes.reads_right l.fn.file → SameTo l.fn.at (g.F.FileBytes.bytes l.fn.file) l.bytes l.done;
}

abbrev pub decreases-loop-done : goal.decreases-loop-done
decreases-loop-done g l = length l.bytes - l.done
