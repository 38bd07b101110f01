use Rattle.std.proofs.Common.{◌≡◌, ◌≤◌, drop, length}
use Rattle.sqlite_record.specs.Record.{decode}
use Rattle.sqlite_record.specs.Fields.{fields_left}
use Rattle.sqindex.proofs.judge_by.is_wide.Given as goal

abbrev pub invariant-fields : goal.invariant-fields
invariant-fields l = record {
  left : drop l.i (decode l.entry) ≡ fields_left l.fields;
  reach : l.i ≤ length (decode l.entry);
}
