use Rattle.std.proofs.Common.{◌≤◌, List, arith, get_or, length, subst}
use Rattle.std.specs.Prelude.{All}
use Rattle.std.proofs.lemmas.List.{take_all}
use Rattle.std.proofs.lemmas.List.Elements.{All-more}
use Rattle.sqtables.specs.declared.list.Object.{Object}
use Rattle.cli_show_rows.proofs.TurnsTaken.{among}
use Rattle.cli_show_diff.specs.Frames.{IsSameVirtual}
use Rattle.cli_show_diff.proofs.frame.has_virtual.Goals as goal

pub returns-then-is_same_virtual-clause-yes : goal.returns-then-is_same_virtual-clause-yes
returns-then-is_same_virtual-clause-yes c = λ _.
    let others = c.args.others.now in
    let i = c.loop-other.other-index in
    let o = c.other-item.result in
    (get_or others i o, among others i o c.loop-other-test.true, subst (λ (x : Object). IsSameVirtual c.args.object.now x) c.other-item.is (c.is_same_virtual.ensures.yes c.if-is_same_virtual.true))

pub returns-clause-not : goal.returns-clause-not
returns-clause-not c = λ _.
    let others = c.args.others.now in
    let i = c.loop-other.other-index in
    let over : length others ≤ i = omega (arith, c.loop-other-test.false) in
    subst (λ (os : List Object). All (λ p. ¬ IsSameVirtual c.args.object.now p) os) (take_all i others over) c.loop-other.invariant

pub loop-other-preserved : goal.loop-other-preserved
loop-other-preserved c =
    let o = c.other-item.result in
    let at = subst (λ (x : Object). ¬ IsSameVirtual c.args.object.now x) c.other-item.is (c.is_same_virtual.ensures.not c.if-is_same_virtual.false) in
    All-more (λ p. ¬ IsSameVirtual c.args.object.now p) c.args.others.now c.loop-other.other-index o c.loop-other-test.true c.loop-other.invariant at
