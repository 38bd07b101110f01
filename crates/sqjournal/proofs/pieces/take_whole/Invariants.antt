use Rattle.std.proofs.Common.{◌≡◌, ℕ, ◌+◌, ◌^◌, ◌≤◌, ◌++◌, List, length}
use Rattle.sqjournal.specs.Reading.{Stands, UnlessOver}
use Rattle.sqjournal.specs.declared.reading.Record.{Record}
use Rattle.sqjournal.proofs.read.RestOfPiece.{left_to}
use Rattle.sqjournal.proofs.pieces.take_whole.Given as goal

abbrev pub invariant-loop-start : goal.invariant-loop-start
invariant-loop-start l = record {
  header : l.reading.header ≡ l.initial.reading.header;
  limit : l.reading.at ≤ 2 ^ 41;
  ahead : UnlessOver l.reading.next (l.place ≤ l.reading.at);
  stands : (b : List ℕ) → length b ≡ l.place → Stands (b ++ l.piece) l.initial.reading l.initial.records.items → Stands (b ++ l.piece) l.reading l.records.items;
  grows : (new : List Record) × (l.records.items ≡ l.initial.records.items ++ new);
}

abbrev pub decreases-loop-start : goal.decreases-loop-start
decreases-loop-start l = left_to (l.place + length l.piece) l.reading
