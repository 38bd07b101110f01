use Rattle.std.proofs.Common.{◌≡◌, drop, map}
use Rattle.sqlite_record.specs.Record.{decode}
use Rattle.sqlite_record.specs.Fields.{fields_left}
use Rattle.sqlite_value.specs.Keys.{entry_cmp}
use Rattle.sqindex.specs.Keys.{value_at}
use Rattle.sqindex.proofs.marks.compare_by.Given as goal

abbrev pub invariant-columns : goal.invariant-columns
invariant-columns l = entry_cmp l.order (map (λ column. value_at column l.rowid (decode l.row)) (drop l.column-index l.key.columns.items)) (fields_left l.fields)
    ≡ entry_cmp l.key.order (map (λ column. value_at column l.rowid (decode l.row)) l.key.columns.items) (decode l.entry)
