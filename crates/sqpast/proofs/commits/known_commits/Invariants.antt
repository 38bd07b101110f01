use Rattle.std.proofs.Common.{◌≡◌, ℕ, length}
use Rattle.sqwal.specs.Header.{named_size}
use Rattle.sqwal.specs.Took.{TookWithin}
use Rattle.sqpast.specs.internal.Commits.{IsFirstCount}
use Rattle.sqpast.proofs.known.KnownCommits.{AreKnownTo}
use Rattle.sqpast.proofs.commits.known_commits.Given as goal

abbrev pub invariant-loop-before : goal.invariant-loop-before
invariant-loop-before g l =
    let bytes = g.F.FileBytes.bytes in
    let w = bytes l.fn.log in
    let file = bytes l.fn.db in
    record {
      right : g.F.FileBytes.reads_right l.fn.db × g.F.FileBytes.reads_right l.fn.log → g.F.FileBytes.reads_right l.log;
      gives : g.F.FileBytes.gives_bytes l.fn.db × g.F.FileBytes.gives_bytes l.fn.log → g.F.FileBytes.gives_bytes l.log;
      same_log : bytes l.log ≡ w;
      long : length l.known.items ≡ l.before;
      done : g.F.FileBytes.reads_right l.fn.db × g.F.FileBytes.reads_right l.fn.log → (most : ℕ) → TookWithin most w l.scan
          → IsFirstCount (named_size w) w file l.before l.first × AreKnownTo (named_size w) w l.front file l.before l.known.items;
    }
