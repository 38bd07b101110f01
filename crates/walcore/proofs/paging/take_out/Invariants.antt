use Rattle.walcore.proofs.Facts.{get_or, ℕ, ◌<◌, ◌≡◌, ◌≢◌}
use Rattle.walcore.proofs.paging.take_out.Given as goal

abbrev pub invariant-loop-i : goal.invariant-loop-i
invariant-loop-i l = record {
  same : l.marks.items ≡ l.fn.marks.items;
  none : (k : ℕ) → k < l.i → get_or l.marks.items k 0 ≢ l.mark;
}
