use Rattle.std.proofs.Common.{◌≡◌, ◌≢◌, ◌∙◌, ◌<◌, length, slice_get, true, Option, Some, None, is_some, sym, ap, arith}
use Rattle.std.specs.Prelude.{not}
use Rattle.std.proofs.lemmas.Option.{slice_get-get_or}
use Rattle.sqindex.proofs.RowsScanned.{more_columns}
use Rattle.sqindex.proofs.column_fault.are_known.Goals as goal

known : {X : Type 0} (o : Option X) → is_some o ≡ true → o ≢ None
known None some e = absurd (cc)
known (Some x) some e = cc

pub rules-preserved : goal.rules-preserved
rules-preserved c =
    let rules = c.args.rules.now in
    let i = c.rules.rule-index in
    let rule = c.rule-item.result in
    let below : i < length rules = omega arith in
    let at : slice_get rules i ≡ Some rule = slice_get-get_or rules i rule below ∙ ap Some (sym c.rule-item.is) in
    more_columns (λ j r. r.default ≢ None) rules i rule c.rules.invariant at (known rule.default (c.is_none.ensures ∙ ap not c.if-is_none.false))
