use Rattle.walcore.proofs.Facts.{IsTable, IsValidFrame, List, TookWithin, length, named_size, ℕ, ◌≡◌, ◌≤◌}
use Rattle.walcore.proofs.plan.index_of.Given as goal

abbrev pub invariant-loop-k : goal.invariant-loop-k
invariant-loop-k l = record {
  bound : l.front.size ≤ l.index.bound;
  room : l.front.frames ≤ l.index.room;
  long : length l.index.pages ≡ l.k;
  table : (most : ℕ) (w : List ℕ) → TookWithin most w l.scan → IsValidFrame (named_size w) w l.front.frames → IsTable (named_size w) l.front.size w l.k l.index;
}
