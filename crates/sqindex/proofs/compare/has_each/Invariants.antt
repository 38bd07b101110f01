use Rattle.std.proofs.Common.{◌≡◌, drop}
use Rattle.sqlite_record.specs.Record.{decode}
use Rattle.sqlite_record.specs.Fields.{fields_left}
use Rattle.sqlite_value.specs.Keys.{entry_cmp}
use Rattle.sqindex.specs.Keys.{entry_for}
use Rattle.sqindex.proofs.compare.has_each.Given as goal

abbrev pub invariant-columns : goal.invariant-columns
invariant-columns l = (drop l.column-index (decode l.entry) ≡ fields_left l.fields)
    × (entry_cmp l.order (entry_for (drop l.column-index l.key.columns.items) l.rowid (decode l.row)) (fields_left l.fields)
    ≡ entry_cmp l.key.order (entry_for l.key.columns.items l.rowid (decode l.row)) (decode l.entry))
