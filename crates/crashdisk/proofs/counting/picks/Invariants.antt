use Rattle.crashdisk.proofs.Words.{digit, file_by, map, range_with_len, value_count, ways, ◌/◌, ◌≡◌}
use Rattle.crashdisk.proofs.counting.picks.Given as goal

abbrev pub invariant-loop-k : goal.invariant-loop-k
invariant-loop-k l = record {
  named : l.pick.items ≡ map (digit (value_count (file_by l.sector l.sectors 0 0 0)) l.fn.n) (range_with_len 0 l.k);
  rest : l.rest ≡ l.fn.n / ways (value_count (file_by l.sector l.sectors 0 0 0)) l.k;
}
