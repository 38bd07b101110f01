use Rattle.crashdisk.proofs.Words.{get_or, put_byte, ℕ, ◌+◌, ◌<◌, ◌≡◌, ◌≤◌}
use Rattle.crashdisk.proofs.held.Change.put.Given as goal

abbrev pub invariant-loop-j : goal.invariant-loop-j
invariant-loop-j l = record {
  done : (k : ℕ) → k < l.j → get_or l.value k 0 ≡ put_byte l.self.from l.self.keep l.self.bytes.now (l.start + k) (get_or l.fn.value k 0);
  left : (k : ℕ) → l.j ≤ k → get_or l.value k 0 ≡ get_or l.fn.value k 0;
}
