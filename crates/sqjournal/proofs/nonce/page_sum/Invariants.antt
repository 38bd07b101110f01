use Rattle.std.proofs.Common.{◌-◌, ◌≡◌, ◌+◌, ◌%◌, ◌^◌, ◌≤◌, length}
use Rattle.sqjournal.specs.NonceSum.{nonce_sum, total, counted}
use Rattle.sqjournal.proofs.nonce.page_sum.Given as goal

abbrev pub invariant-loop-at : goal.invariant-loop-at
invariant-loop-at l = record {
  within : l.at ≤ length l.page;
  whole : (length l.page - l.at) % 200 ≡ 0;
  rest : (l.sum + total (counted l.page) l.at) % 2 ^ 32 ≡ nonce_sum l.nonce l.page;
}

abbrev pub decreases-loop-at : goal.decreases-loop-at
decreases-loop-at l = l.at
