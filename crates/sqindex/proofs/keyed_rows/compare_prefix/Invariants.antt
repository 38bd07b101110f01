use Rattle.std.proofs.Common.{◌≡◌, ◌-◌, take}
use Rattle.sqlite_record.specs.Record.{decode}
use Rattle.sqlite_record.specs.Fields.{fields_left}
use Rattle.sqlite_value.specs.Keys.{prefix_cmp}
use Rattle.sqindex.proofs.keyed_rows.compare_prefix.Given as goal

abbrev pub invariant-fields : goal.invariant-fields
invariant-fields l = prefix_cmp l.order (fields_left l.left) (take (l.columns - l.i) (fields_left l.right)) ≡ prefix_cmp l.fn.order (decode l.first) (take l.columns (decode l.second))
