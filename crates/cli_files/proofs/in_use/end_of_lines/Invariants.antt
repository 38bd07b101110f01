use Rattle.std.proofs.Common.{◌≡◌, ◌<◌, ◌≤◌, ◌-◌, ℕ, get_or}
use Rattle.cli_files.proofs.in_use.end_of_lines.Given as goal

-- so far the end is behind the last newline
abbrev pub invariant-loop-i : goal.invariant-loop-i
invariant-loop-i l = record {
  within : l.end ≤ l.i;
  ends : 0 < l.end → get_or l.bytes (l.end - 1) 0 ≡ 10;
  last : (k : ℕ) → l.end ≤ k → k < l.i → get_or l.bytes k 0 ≡ 10 → ⊥;
}
