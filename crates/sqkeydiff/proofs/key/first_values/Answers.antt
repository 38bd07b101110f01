use Rattle.std.proofs.Common.{◌≡◌, ◌∙◌, ◌+◌, ◌-◌, List, [], ◌∷◌, ◌++◌, map, take, ap, rules, arith}
use Rattle.sqval.specs.Datum.{Datum, datum_of}
use Rattle.sqlite_value.specs.declared.value.Value.{Value}
use Rattle.sqkeys.specs.Columns.{value_of}
use Rattle.sqkeydiff.proofs.KeysOfRows.{one_more, no_more, all_taken}
use Rattle.sqkeydiff.proofs.key.first_values.Goals as goal

pub fields-preserved : goal.fields-preserved
fields-preserved c =
    let x : Datum = datum_of c.in-Some.value in
    let first : c.fields.columns ≡ x ∷ c.next.new.self = search rules in
    let pushed : c.push.new.self ≡ c.fields.values ++ value_of x ∷ [] = c.in_ok-push-in-Some.ensures.ok ∙ ap (λ (v : Value). c.fields.values ++ v ∷ []) c.value_of.ensures in
    ap (λ (l : List Value). l ++ map value_of (take (c.args.width - (c.fields.i + 1)) c.next.new.self)) pushed
    ∙ one_more c.fields.values (map value_of (take c.args.width c.args.stored.now)) c.args.width c.fields.i x c.fields.columns c.next.new.self (omega arith) first c.fields.invariant

pub returns-in-None : goal.returns-in-None
returns-in-None c =
    let none : c.fields.columns ≡ [] = search rules in
    no_more c.fields.values (map value_of (take c.args.width c.args.stored.now)) (c.args.width - c.fields.i) c.fields.columns none c.fields.invariant

pub returns : goal.returns
returns c =
    all_taken c.fields.values (map value_of (take c.args.width c.args.stored.now)) c.args.width c.fields.i c.fields.columns (omega arith) c.fields.invariant
