use Rattle.std.proofs.Common.{◌≡◌, ℕ, ◌≤◌, length}
use Rattle.sqwal.specs.Frames.{IsValidFrame}
use Rattle.sqwal.specs.Header.{named_size}
use Rattle.sqwal.specs.Took.{TookWithin}
use Rattle.view_loss.specs.internal.Reasons.{IsNoCopy}
use Rattle.view_loss.proofs.loss.copied_from.Given as goal

abbrev pub invariant-loop-before : goal.invariant-loop-before
invariant-loop-before g l =
    let bytes = g.F.FileBytes.bytes in
    let w = bytes l.fn.log in
    record {
      right : g.F.FileBytes.reads_right l.fn.log → g.F.FileBytes.reads_right l.log;
      gives : g.F.FileBytes.gives_bytes l.fn.log → g.F.FileBytes.gives_bytes l.log;
      same : bytes l.log ≡ w;
      room : length l.buffer ≡ l.page_size;
      done : g.F.FileBytes.reads_right l.fn.log → (most : ℕ) → TookWithin most w l.scan → named_size w ≡ l.page_size
          → ((i : ℕ) → 1 ≤ i → i ≤ l.before → IsValidFrame l.page_size w i) → IsNoCopy l.page_size w l.before l.of.0 l.of.1.now;
    }
