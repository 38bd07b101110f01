use Rattle.std.proofs.Common.{◌≡◌, ◌≤◌, ◌<◌, ℕ, length, get_or}
use Rattle.sqpast.specs.internal.Chains.{IsUntilNamed}
use Rattle.sqpast.proofs.gone.past_end.Given as goal

abbrev pub invariant-loop-k : goal.invariant-loop-k
invariant-loop-k l = record {
  long : length l.list.items ≡ length l.chains.first.items;
  named : (i : ℕ) → l.fn.long ≤ i → i < l.k → IsUntilNamed (get_or l.chains.first.items i 0) (get_or l.list.items i 0);
}
