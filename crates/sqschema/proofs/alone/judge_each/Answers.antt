use Rattle.std.proofs.Common.{◌≤◌, length, sym, subst, arith}
use Rattle.std.specs.Prelude.{map}
use Rattle.std.proofs.lemmas.List.{length-map}
use Rattle.sqschema.specs.Items.{seen}
use Rattle.sqschema.specs.internal.Judging.{IsSoundAlone, Tells}
use Rattle.sqschema.proofs.ItemsAt.{below_next, below_all}
use Rattle.sqschema.proofs.alone.judge_each.Goals as goal

pub returns-in-Err-clause-err : goal.returns-in-Err-clause-err
returns-in-Err-clause-err c = λ d.
    let xs = map seen c.args.items.now in
    subst (Tells d xs) (sym c.at_row.ensures) (seen c.item_at.result.now, c.item_at.ensures, c.in-Err.ensures.err d xs c.items.i)

pub items-preserved : goal.items-preserved
items-preserved c = below_next (λ i x. IsSoundAlone x) (map seen c.args.items.now) c.items.i (seen c.item_at.result.now) c.item_at.ensures c.in-Ok.ensures.ok c.items.invariant

pub returns-clause-ok : goal.returns-clause-ok
returns-clause-ok c =
    let all : length (map seen c.args.items.now) ≤ c.items.i = omega (arith, length-map c.args.items.now seen, c.items-test.false) in
    below_all (λ i x. IsSoundAlone x) (map seen c.args.items.now) c.items.i all c.items.invariant
