use Rattle.std.proofs.Common.{◌≤◌, Bool, List, arith, false, get_or, length, subst, take_all, true}
use Rattle.std.specs.Prelude.{All}
use Rattle.std.proofs.lemmas.List.Elements.{All-more}
use Rattle.sqtables.specs.declared.list.Object.{Object}
use Rattle.cli_show_rows.specs.Dumps.{IsCounting}
use Rattle.cli_show_rows.proofs.TurnsTaken.{among}
use Rattle.cli_show_rows.proofs.texts.are_counting.Goals as goal

pub loop-object-preserved : goal.loop-object-preserved
loop-object-preserved c =
    let o = c.object-item.result in
    let it = subst (λ (b : Bool). IsCounting o b) c.if-branch.false c.in_ok-is_counting.ensures in
    let at = subst (λ (x : Object). IsCounting x false) c.object-item.is it in
    All-more (λ (x : Object). IsCounting x false) c.args.objects.now c.loop-object.object-index o c.loop-object-test.true c.loop-object.invariant at

pub returns-then-branch : goal.returns-then-branch
returns-then-branch c =
    let objects = c.args.objects.now in
    let i = c.loop-object.object-index in
    let o = c.object-item.result in
    let it = subst (λ (b : Bool). IsCounting o b) c.if-branch.true c.in_ok-is_counting.ensures in
    let at = subst (λ (x : Object). IsCounting x true) c.object-item.is it in
    (get_or objects i o, among objects i o c.loop-object-test.true, at)

pub returns : goal.returns
returns c =
    let objects = c.args.objects.now in
    let i = c.loop-object.object-index in
    let over : length objects ≤ i = omega (arith, c.loop-object-test.false) in
    subst (λ (os : List Object). All (λ (x : Object). IsCounting x false) os) (take_all i objects over) c.loop-object.invariant
