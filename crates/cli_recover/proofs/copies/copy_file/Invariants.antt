use Rattle.std.proofs.Common.{◌-◌, ◌≡◌, ◌≤◌, length, take}
use Rattle.std.specs.Io.KnownBytes.{Appends}
use Rattle.cli_recover.proofs.copies.copy_file.Given as goal

abbrev pub invariant-loop-at : goal.invariant-loop-at
invariant-loop-at g l =
    let bytes = g.F.FileBytes.bytes in
    let reads = g.F.FileBytes.reads_right in
    record {
      room : length l.piece.items ≡ 65536;
      within : l.at ≤ l.end;
      all : reads l.fn.file → l.end ≡ length (bytes l.fn.file);
      right : reads l.fn.file → reads l.file;
      same : bytes l.file ≡ bytes l.fn.file;
      written : reads l.fn.file → Appends (g.W.Write.contents l.fn.out) (g.W.Write.contents l.out) (take l.at (bytes l.fn.file));
    }

abbrev pub decreases-loop-at : goal.decreases-loop-at
decreases-loop-at g l = l.end - l.at
