use Rattle.std.proofs.Common.{◌≡◌, ◌∙◌, ◌<◌, length, slice_get, Some, None, sym, ap, arith}
use Rattle.std.proofs.lemmas.Option.{slice_get-get_or}
use Rattle.sqlite_record.specs.Record.{decode}
use Rattle.sqindex.specs.RowsKept.{fault_of}
use Rattle.sqindex.proofs.RowsScanned.{left_on, next_fault, fault_found, nothing_found, more_columns}
use Rattle.sqindex.proofs.column_fault.first_fault.Goals as goal

pub returns-then-is_some : goal.returns-then-is_some
returns-then-is_some c =
    let rules = c.args.rules.now in
    let xs = decode c.args.row.now in
    let i = c.rules.rule-index in
    let rule = c.rule-item.result in
    let below : i < length rules = omega arith in
    let at : slice_get rules i ≡ Some rule = slice_get-get_or rules i rule below ∙ ap Some (sym c.rule-item.is) in
    let here = next_fault xs i rule c.rules.fields c.next.new.self c.next.result c.rules.invariant.left c.next.ensures.steps in
    fault_found rules xs i rule c.fault_of-fault.result at (c.fault_of-fault.ensures ∙ here) (sym c.is_some.ensures ∙ c.if-is_some.true)

pub rules-preserved : goal.rules-preserved
rules-preserved c =
    let rules = c.args.rules.now in
    let xs = decode c.args.row.now in
    let i = c.rules.rule-index in
    let rule = c.rule-item.result in
    let below : i < length rules = omega arith in
    let at : slice_get rules i ≡ Some rule = slice_get-get_or rules i rule below ∙ ap Some (sym c.rule-item.is) in
    let here = next_fault xs i rule c.rules.fields c.next.new.self c.next.result c.rules.invariant.left c.next.ensures.steps in
    record {
      left = left_on c.rules.fields c.next.new.self c.next.result xs i c.rules.invariant.left c.next.ensures.steps;
      none = more_columns (λ j r. fault_of r (slice_get xs j) ≡ None) rules i rule c.rules.invariant.none at
          (nothing_found rule xs i c.fault_of-fault.result (c.fault_of-fault.ensures ∙ here) (sym c.is_some.ensures ∙ c.if-is_some.false));
    }
