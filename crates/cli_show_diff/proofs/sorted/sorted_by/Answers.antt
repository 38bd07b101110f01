use Rattle.std.proofs.Common.{◌≡◌, ℕ, List, Option, Some, None, false, true, inl, inr, subst}
use Rattle.std.specs.Prelude.{MatchOption}
use Rattle.sqdeep.specs.declared.text.Encoding.{Encoding}
use Rattle.sqkeydiff.specs.declared.key.KeyOrder.{KeyOrder}
use Rattle.sqkeys.specs.declared.keyed.RowKey.{RowKey}
use Rattle.sqkeys.specs.Keyed.{HasNoRowKey, IsRowKeyOf}
use Rattle.cli_show_diff.specs.Sorted.{IsSortedBy, is_known_in}
use Rattle.cli_show_diff.proofs.sorted.sorted_by.Goals as goal

sorted_from : (text : List ℕ) (format : ℕ) (encoding : Encoding) (row : RowKey) (by : Option KeyOrder) → IsRowKeyOf text format row
    → MatchOption by (is_known_in encoding row ≡ false) (λ by. (is_known_in encoding row ≡ true) × (by ≡ record { width = row.width; order = row.order }))
    → IsSortedBy text format encoding by
sorted_from text format encoding row None is h = inr (row, is, h)
sorted_from text format encoding row (Some by) is h = (row, is, h.0, h.1)

pub returns-in-Ok-Some-clause-ok : goal.returns-in-Ok-Some-clause-ok
returns-in-Ok-Some-clause-ok c =
    let text = c.args.text.now in
    let format = c.args.numbers.format in
    let row = c.in-Ok-Some.row in
    let is = subst (λ (found : Option RowKey). MatchOption found (HasNoRowKey text format) (IsRowKeyOf text format)) c.in-Ok-Some.field-0-is c.in-Ok-Some.ensures in
    sorted_from text format c.args.numbers.encoding row c.sorted_as.result is c.sorted_as.ensures

pub returns-in-Ok-None-clause-ok : goal.returns-in-Ok-None-clause-ok
returns-in-Ok-None-clause-ok c =
    let text = c.args.text.now in
    let format = c.args.numbers.format in
    inl (subst (λ (found : Option RowKey). MatchOption found (HasNoRowKey text format) (IsRowKeyOf text format)) c.in-Ok-None.field-0-is c.in-Ok-None.ensures)
