use Rattle.std.proofs.Common.{◌≡◌, ◌∙◌, [], ◌∷◌, ◌++◌, map, sym, ap, rules}
use Rattle.sqval.specs.Datum.{Datum, datum_of}
use Rattle.sqdiff.proofs.SameValues.{heads_differ, one_ends, ended}
use Rattle.sqkeydiff.proofs.values.are_same.Goals as goal

pub returns-then-not-is_same_value : goal.returns-then-not-is_same_value
returns-then-not-is_same_value c =
    let x : Datum = datum_of c.in-Some.value in
    let y : Datum = datum_of c.in-Some-next.other in
    let next : c.values.value-iterator ≡ x ∷ c.next.new.self = search rules in
    let other : c.values.others ≡ y ∷ c.next-in-values.new.self = search rules in
    let differ = heads_differ (map datum_of c.values.yielded) c.args.old.now c.args.new.now c.next.new.self c.next-in-values.new.self x y
    (ap (λ l. map datum_of c.values.yielded ++ l) (sym next) ∙ c.values.invariant.old_all) (ap (λ l. map datum_of c.values.yielded ++ l) (sym other) ∙ c.values.invariant.new_all)
    (λ same. let told = c.is_same_value.ensures.1 same in let not = c.if-not-is_same_value.true in cc) in
    (λ e. cc, λ same. absurd (differ same))

pub returns-in-None-next : goal.returns-in-None-next
returns-in-None-next c =
    let x : Datum = datum_of c.in-Some.value in
    let next : c.values.value-iterator ≡ x ∷ c.next.new.self = search rules in
    let none : c.values.others ≡ [] = search rules in
    let differ = one_ends (map datum_of c.values.yielded) c.args.old.now c.args.new.now c.next.new.self c.values.others x
    (ap (λ l. map datum_of c.values.yielded ++ l) (sym next) ∙ c.values.invariant.old_all) c.values.invariant.new_all none in
    (λ e. cc, λ same. absurd (differ same))

pub returns : goal.returns
returns c =
    let end : c.values.value-iterator ≡ [] = search rules in
    ended (map datum_of c.values.yielded) c.args.old.now c.args.new.now c.values.others c.next-2.new.self c.next-2.result c.is_none.result c.is_none.ensures c.next-2.ensures.steps
    (ap (λ l. map datum_of c.values.yielded ++ l) (sym end) ∙ c.values.invariant.old_all) c.values.invariant.new_all
