use Rattle.std.proofs.Common.{◌≡◌, ◌≢◌, ◌∙◌, ◌<◌, length, slice_get, option_map, Some, None, sym, ap, arith}
use Rattle.std.proofs.lemmas.Option.{slice_get-get_or}
use Rattle.sqlite_record.specs.Record.{decode}
use Rattle.sqlite_value.specs.Value.{owned}
use Rattle.sqindex.proofs.FieldsLeft.{field_at}
use Rattle.sqindex.proofs.RowsScanned.{left_on, more_columns, of_true, of_false}
use Rattle.sqindex.proofs.column_fault.is_clear.Goals as goal

pub returns-then-is_open : goal.returns-then-is_open
returns-then-is_open c =
    let rules = c.args.rules.now in
    let xs = decode c.args.row.now in
    let i = c.rules.rule-index in
    let rule = c.rule-item.result in
    let below : i < length rules = omega arith in
    let at : slice_get rules i ≡ Some rule = slice_get-get_or rules i rule below ∙ ap Some (sym c.rule-item.is) in
    let here = field_at c.rules.fields c.next.new.self c.next.result xs i c.rules.invariant.left c.next.ensures.steps in
    let unknown = of_true c.is_open.result ((option_map owned c.next.result ≡ None) × (rule.default ≡ None)) (option_map owned c.next.result ≡ None → rule.default ≢ None) c.if-is_open.true c.is_open.ensures in
    (i, rule, at, sym here ∙ unknown.0, unknown.1)

pub rules-preserved : goal.rules-preserved
rules-preserved c =
    let rules = c.args.rules.now in
    let xs = decode c.args.row.now in
    let i = c.rules.rule-index in
    let rule = c.rule-item.result in
    let below : i < length rules = omega arith in
    let at : slice_get rules i ≡ Some rule = slice_get-get_or rules i rule below ∙ ap Some (sym c.rule-item.is) in
    let here = field_at c.rules.fields c.next.new.self c.next.result xs i c.rules.invariant.left c.next.ensures.steps in
    let known = of_false c.is_open.result ((option_map owned c.next.result ≡ None) × (rule.default ≡ None)) (option_map owned c.next.result ≡ None → rule.default ≢ None) c.if-is_open.false c.is_open.ensures in
    record {
      left = left_on c.rules.fields c.next.new.self c.next.result xs i c.rules.invariant.left c.next.ensures.steps;
      known = more_columns (λ j r. slice_get xs j ≡ None → r.default ≢ None) rules i rule c.rules.invariant.known at (λ none. known (here ∙ none));
    }
