use Rattle.std.proofs.Common.{◌≡◌, ℕ, length}
use Rattle.sqpast.specs.internal.Chains.{AreChains}
use Rattle.sqpast.proofs.known.BytesInPieces.{IsTried}
use Rattle.sqpast.proofs.likeness.is_copied.Given as goal

abbrev pub invariant-loop-step : goal.invariant-loop-step
invariant-loop-step g l = record {
  right : g.F.FileBytes.reads_right l.fn.log → g.F.FileBytes.reads_right l.log;
  gives : g.F.FileBytes.gives_bytes l.fn.log → g.F.FileBytes.gives_bytes l.log;
  same_bytes : g.F.FileBytes.bytes l.log ≡ g.F.FileBytes.bytes l.fn.log;
  tried : g.F.FileBytes.reads_right l.fn.log → (front : ℕ) → AreChains (g.F.FileBytes.bytes l.fn.log) front (length l.chains.first.items) l.chains
      → IsTried l.chains.page_size (g.F.FileBytes.bytes l.fn.log) front l.p l.bytes l.step l.frame;
}
