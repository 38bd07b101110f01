use Rattle.std.proofs.Common.{◌≡◌, ◌∙◌, ◌≤◌, true, length, sym, subst, arith}
use Rattle.std.specs.Prelude.{map}
use Rattle.std.proofs.lemmas.List.{length-map}
use Rattle.sqschema.specs.Items.{seen}
use Rattle.sqschema.specs.Rules.{is_owned}
use Rattle.sqschema.specs.internal.Judging.{Tells}
use Rattle.sqschema.proofs.ItemsAt.{below_next, below_all}
use Rattle.sqschema.proofs.owners.judge_owners.Goals as goal

pub returns-then-not-owned-clause-err : goal.returns-then-not-owned-clause-err
returns-then-not-owned-clause-err c = λ d.
    let xs = map seen c.args.items.now in
    let owned = c.in-Ok-is_owned.ensures xs c.in-Ok.ensures c.in-Ok-owners.ensures in
    subst (Tells d xs) (sym c.at_row.ensures) (seen c.item_at.result.now, c.item_at.ensures, sym owned ∙ c.if-not-owned.true)

pub returns-in_default-clause-err : goal.returns-in_default-clause-err
returns-in_default-clause-err c = λ d. subst (Tells d (map seen c.args.items.now)) (sym c.no_memory.ensures) tt

pub returns-in_default-owners-clause-err : goal.returns-in_default-owners-clause-err
returns-in_default-owners-clause-err c = λ d. subst (Tells d (map seen c.args.items.now)) (sym c.no_memory-in_default-owners.ensures) tt

pub returns-in_default-is_owned-clause-err : goal.returns-in_default-is_owned-clause-err
returns-in_default-is_owned-clause-err c = λ d. subst (Tells d (map seen c.args.items.now)) (sym c.no_memory-in_default-is_owned.ensures) tt

pub items-preserved : goal.items-preserved
items-preserved c =
    let xs = map seen c.args.items.now in
    let owned = c.in-Ok-is_owned.ensures xs c.in-Ok.ensures c.in-Ok-owners.ensures in
    below_next (λ i x. is_owned xs x ≡ true) xs c.items.i (seen c.item_at.result.now) c.item_at.ensures (sym owned ∙ c.if-not-owned.false) c.items.invariant

pub returns-clause-ok : goal.returns-clause-ok
returns-clause-ok c =
    let xs = map seen c.args.items.now in
    let all : length xs ≤ c.items.i = omega (arith, length-map c.args.items.now seen, c.items-test.false) in
    below_all (λ i x. is_owned xs x ≡ true) xs c.items.i all c.items.invariant
