use Rattle.std.proofs.Common.{◌≡◌, ◌<◌, ◌+◌, ◌∙◌, ℤ, List, drop, get_or, length, slice_get, Some, sym, ap, subst, arith, w64, to_z, of_z}
use Rattle.std.proofs.lemmas.Int.{to_z-of_z}
use Rattle.std.proofs.lemmas.Option.{slice_get-get_or}
use Rattle.std.specs.declared.cmp.Ordering.TheVariants.{Equal}
use Rattle.sqlite_record.specs.Record.{decode}
use Rattle.sqlite_record.specs.Fields.{fields_left}
use Rattle.sqlite_value.specs.declared.keys.Order.{Order}
use Rattle.sqlite_value.specs.declared.value.Value.{Value}
use Rattle.sqlite_value.specs.Keys.{by_key, first_key, entry_cmp}
use Rattle.sqlite_value.specs.Value.{owned}
use Rattle.sqkeys.specs.declared.key.KeyColumn.{KeyColumn}
use Rattle.sqindex.specs.Keys.{entry_for, IsKeyed}
use Rattle.sqindex.proofs.FieldsLeft.{rest_of}
use Rattle.sqindex.proofs.RowidsAlike.{rowids_alike, column_next}
use Rattle.sqindex.proofs.compare.has_each.Goals as goal

pub columns-preserved : goal.columns-preserved
columns-preserved c =
    let columns = c.args.key.now.columns.items in
    let i = c.columns.column-index in
    let column = c.column-item.result in
    let row = decode c.args.row.now in
    let rowid = to_z w64 (of_z w64 c.args.rowid) in
    let left = fields_left c.next.new.self in
    let v = owned c.in-Some.other in
    let below : i < length columns = omega arith in
    let at : slice_get columns i ≡ Some column = slice_get-get_or columns i column below ∙ ap Some (sym (c.column-item.is ∙ ap (λ (xs : List KeyColumn). get_or xs i column) c.deref-column-items.ensures.value)) in
    let even = c.in-Equal.ensures ∙ ap (λ (z : Value). by_key (first_key c.columns.order) z v) c.value_in.ensures in (
      rest_of (decode c.args.entry.now) i v left (c.columns.invariant.0 ∙ c.in-Some.ensures.steps),
      ap (λ (o : Order). entry_cmp o (entry_for (drop (i + 1) columns) rowid row) left) c.later-order.ensures
          ∙ column_next c.columns.order columns i column rowid row v (fields_left c.columns.fields) left at c.in-Some.ensures.steps even ∙ c.columns.invariant.1,
    )

pub returns : goal.returns
returns c = λ yes.
    let key = c.args.key.now in
    let columns = key.columns.items in
    let row = decode c.args.row.now in
    let entry = decode c.args.entry.now in
    let end : c.columns.column-index ≡ length columns = omega arith in
    let number : to_z w64 (of_z w64 c.args.rowid) ≡ c.args.rowid = to_z-of_z w64 c.args.rowid c.ranges.rowid in
    let keyed = subst (λ (r : ℤ). IsKeyed (length columns) r entry) (sym number) c.requires.keyed in
    let even = rowids_alike c.columns.order columns c.columns.column-index row entry (fields_left c.columns.fields) (to_z w64 (of_z w64 c.args.rowid)) end keyed c.columns.invariant.0 in
    subst (λ (r : ℤ). entry_cmp key.order (entry_for columns r row) entry ≡ Equal) number (sym c.columns.invariant.1 ∙ even)
