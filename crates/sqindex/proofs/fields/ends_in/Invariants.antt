use Rattle.std.proofs.Common.{◌≡◌, ◌<◌, ℤ, drop, slice_get, Some}
use Rattle.sqlite_record.specs.Record.{decode}
use Rattle.sqlite_record.specs.Fields.{fields_left}
use Rattle.sqlite_value.specs.declared.value.Value.TheVariants.{Int}
use Rattle.sqindex.proofs.fields.ends_in.Given as goal

abbrev pub invariant-fields : goal.invariant-fields
invariant-fields l = record {
  left : drop l.i (decode l.entry) ≡ fields_left l.fields;
  led : (n : ℤ) → l.first ≡ Some n → (0 < l.i) × (slice_get (decode l.entry) 0 ≡ Some (Int n));
}
