use Rattle.std.proofs.Common.{◌≡◌, drop}
use Rattle.sqlite_record.specs.Record.{decode}
use Rattle.sqlite_record.specs.Fields.{fields_left}
use Rattle.sqindex.proofs.fields.field.Given as goal

abbrev pub invariant-fields : goal.invariant-fields
invariant-fields l = drop l.i (decode l.record) ≡ fields_left l.fields
