use Rattle.crashdisk.proofs.Words.{[], cond, get_or, length, nat_lt, ℕ, ◌<◌, ◌≡◌, ◌≤◌}
use Rattle.crashdisk.proofs.values.Values.end.Given as goal

abbrev pub invariant-loop-k : goal.invariant-loop-k
invariant-loop-k l = record {
  count : length l.self-inside.list.items ≡ length l.initial.self-inside.list.items;
  long : (n : ℕ) → n < l.k → length (get_or l.self-inside.list.items n []) ≡ length (get_or l.initial.self-inside.list.items n []);
  each : (n j : ℕ) → n < l.k → get_or (get_or l.self-inside.list.items n []) j 0 ≡ cond (nat_lt j l.end) (get_or (get_or l.initial.self-inside.list.items n []) j 0) 0;
  left : (n : ℕ) → l.k ≤ n → get_or l.self-inside.list.items n [] ≡ get_or l.initial.self-inside.list.items n [];
}
