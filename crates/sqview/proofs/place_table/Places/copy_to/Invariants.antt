use Rattle.std.proofs.Common.{◌≡◌, ℕ, ◌<◌, length, get_or}
use Rattle.sqview.proofs.place_table.Places.copy_to.Given as goal

abbrev pub invariant-loop-before : goal.invariant-loop-before
invariant-loop-before l = record {
  long : length l.out ≡ length l.self.items;
  copied : (k : ℕ) → k < l.before → get_or l.out k 0 ≡ get_or l.self.items k 0;
}
