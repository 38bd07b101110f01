use Rattle.std.proofs.Common.{◌-◌, ◌≡◌, ◌≤◌, length, take}
use Rattle.sqval.specs.Bytes.{AreBytes}
use Rattle.sqwal.specs.Took.{TookWithin}
use Rattle.sqview.proofs.logs.scan_log_within.Given as goal

abbrev pub invariant-loop-at : goal.invariant-loop-at
invariant-loop-at g l =
    let w = g.F.FileBytes.bytes l.fn.log in
    record {
      long : length l.piece.items ≡ 65536;
      within : l.at ≤ l.end;
      right : g.F.FileBytes.reads_right l.fn.log → g.F.FileBytes.reads_right l.log;
      gives : g.F.FileBytes.gives_bytes l.fn.log → g.F.FileBytes.gives_bytes l.log;
      same : g.F.FileBytes.bytes l.log ≡ w;
      end : g.F.FileBytes.reads_right l.fn.log → l.end ≡ length w;
      bytes : g.F.FileBytes.reads_right l.fn.log → AreBytes w;
      took : g.F.FileBytes.reads_right l.fn.log → TookWithin l.fn.limits.frames (take l.at w) l.scan;
    }

abbrev pub decreases-loop-at : goal.decreases-loop-at
decreases-loop-at g l = l.end - l.at
