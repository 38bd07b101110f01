use Rattle.std.proofs.Common.{◌≡◌, ℕ, ◌+◌, ◌*◌, ◌<◌, ◌≤◌, get_or}
use Rattle.sqval.proofs.stride.gather.Given as goal

abbrev pub invariant-loop-k : goal.invariant-loop-k
invariant-loop-k l = record {
  done : (j i : ℕ) → j < l.k → i < l.size → get_or l.room (j * l.size + i) 0 ≡ get_or l.initial.room (l.first + j * (l.size + l.gap) + i) 0;
  rest : (i : ℕ) → l.k * l.size ≤ i → get_or l.room i 0 ≡ get_or l.initial.room i 0;
}
