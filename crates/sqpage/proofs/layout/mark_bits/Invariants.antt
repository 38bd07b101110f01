use Rattle.std.proofs.Common.{◌≡◌, ◌-◌, ◌≤◌, length}
use Rattle.sqpage.specs.internal.Marking.{MarksSpan}
use Rattle.sqpage.proofs.layout.mark_bits.Given as goal

abbrev pub invariant-words : goal.invariant-words
invariant-words l = record {
  begun : l.at ≤ l.from;
  within : l.from ≤ l.end;
  marked : MarksSpan l.fn.map l.map (record { start = l.at; size = l.from - l.at });
  same_length : length l.map ≡ length l.fn.map;
}

abbrev pub decreases-words : goal.decreases-words
decreases-words l = l.end - l.from
