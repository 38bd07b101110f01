use Rattle.std.proofs.Common.{◌≡◌, ℤ, length, slice_get, Some, subst, rules, arith, FitsSigned, w64, to_z, of_z}
use Rattle.std.proofs.lemmas.Grind.{common_steps}
use Rattle.std.proofs.lemmas.Int.{to_z-of_z}
use Rattle.std.specs.declared.cmp.Ordering.TheVariants.{Equal}
use Rattle.sqlite_record.specs.Record.{decode}
use Rattle.sqlite_value.specs.declared.value.Value.TheVariants.{Int}
use Rattle.sqlite_value.specs.Keys.{by_key, first_key}
use Rattle.sqkeys.specs.declared.key.KeyColumn.{KeyColumn}
use Rattle.sqindex.specs.Keys.{value_at}
use Rattle.sqindex.proofs.RowidsAlike.{alike_in_one}
use Rattle.sqindex.proofs.compare.has_columns.Goals as goal

pub returns-in-Some : goal.returns-in-Some
returns-in-Some c = λ yes.
    let key = c.args.key.now in
    let row = decode c.args.row.now in
    let rowid = c.args.ends.rowid in
    let first = c.in-Some.first in
    let many : length key.columns.items ≡ 1 = grind (arith, common_steps) in
    let fits : FitsSigned w64 rowid = search rules in
    let fits' : FitsSigned w64 first = search rules in
    let number : to_z w64 (of_z w64 rowid) ≡ rowid = to_z-of_z w64 rowid fits in
    let number' : to_z w64 (of_z w64 first) ≡ first = to_z-of_z w64 first fits' in
    let even : (column : KeyColumn) → slice_get key.columns.items 0 ≡ Some column → by_key (first_key key.order) (value_at column rowid row) (Int first) ≡ Equal = λ column at.
    subst (λ (n : ℤ). by_key (first_key key.order) (value_at column rowid row) (Int n) ≡ Equal) number'
    (subst (λ (r : ℤ). by_key (first_key key.order) (value_at column r row) (Int (to_z w64 (of_z w64 first))) ≡ Equal) number (c.has_integer.ensures yes column at)) in
    alike_in_one key.order key.columns.items rowid first row (decode c.args.entry.now) many c.requires.ends.keyed (c.requires.ends.led first c.in-Some.is).1 even
