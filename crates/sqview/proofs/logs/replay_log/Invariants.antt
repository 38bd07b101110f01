use Rattle.std.proofs.Common.{◌-◌, ◌≡◌, ◌≤◌, length, take}
use Rattle.sqjournal.specs.Took.{Took}
use Rattle.sqview.proofs.logs.replay_log.Given as goal

abbrev pub invariant-loop-at : goal.invariant-loop-at
invariant-loop-at g l =
    let b = g.F.FileBytes.bytes l.fn.journal in
    record {
      long : length l.piece.items ≡ 65536;
      within : l.at ≤ l.end;
      right : g.F.FileBytes.reads_right l.fn.journal → g.F.FileBytes.reads_right l.journal;
      gives : g.F.FileBytes.gives_bytes l.fn.journal → g.F.FileBytes.gives_bytes l.journal;
      same : g.F.FileBytes.bytes l.journal ≡ b;
      end : g.F.FileBytes.reads_right l.fn.journal → l.end ≡ length b;
      took : g.F.FileBytes.reads_right l.fn.journal → Took (take l.at b) l.replay;
    }

abbrev pub decreases-loop-at : goal.decreases-loop-at
decreases-loop-at g l = l.end - l.at
