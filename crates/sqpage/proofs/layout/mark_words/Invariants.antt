use Rattle.std.proofs.Common.{◌≡◌, ◌*◌, ◌-◌, length}
use Rattle.sqpage.specs.internal.Marking.{MarksSpan}
use Rattle.sqpage.proofs.layout.mark_words.Given as goal

abbrev pub invariant-words : goal.invariant-words
invariant-words l = record {
  marked : MarksSpan l.fn.map l.map (record { start = 64 * l.first; size = 64 * l.index - 64 * l.first });
  same_length : length l.map ≡ length l.fn.map;
}
