use Rattle.std.proofs.Common.{◌⊎◌, ◌≤◌, Bool, List, arith, false, get_or, length, subst, take_all, true}
use Rattle.std.specs.Prelude.{All, MatchBool}
use Rattle.std.proofs.lemmas.List.Elements.{All-more}
use Rattle.sqtables.specs.declared.list.Object.{Object}
use Rattle.cli_show_rows.proofs.TurnsTaken.{among}
use Rattle.cli_show_diff.specs.Frames.{IsTextLeft, IsTriggerNamed}
use Rattle.cli_show_diff.proofs.frame.is_staying.Goals as goal

pub loop-object-preserved : goal.loop-object-preserved
loop-object-preserved c =
    let name = c.args.name.now in
    let o = c.object-item.result in
    let it = subst (λ (b : Bool). MatchBool b (IsTriggerNamed name o × IsTextLeft o true) ((¬ IsTriggerNamed name o) ⊎ IsTextLeft o false)) c.if-branch.false c.in_ok-stays_for.ensures in
    let at = subst (λ (x : Object). (¬ IsTriggerNamed name x) ⊎ IsTextLeft x false) c.object-item.is it in
    All-more (λ (x : Object). (¬ IsTriggerNamed name x) ⊎ IsTextLeft x false) c.args.news.now c.loop-object.object-index o c.loop-object-test.true c.loop-object.invariant at

pub returns-then-branch : goal.returns-then-branch
returns-then-branch c =
    let name = c.args.name.now in
    let news = c.args.news.now in
    let i = c.loop-object.object-index in
    let o = c.object-item.result in
    let it = subst (λ (b : Bool). MatchBool b (IsTriggerNamed name o × IsTextLeft o true) ((¬ IsTriggerNamed name o) ⊎ IsTextLeft o false)) c.if-branch.true c.in_ok-stays_for.ensures in
    let at = subst (λ (x : Object). IsTriggerNamed name x × IsTextLeft x true) c.object-item.is it in
    (get_or news i o, among news i o c.loop-object-test.true, at.0, at.1)

pub returns : goal.returns
returns c =
    let name = c.args.name.now in
    let news = c.args.news.now in
    let i = c.loop-object.object-index in
    let over : length news ≤ i = omega (arith, c.loop-object-test.false) in
    subst (λ (os : List Object). All (λ (x : Object). (¬ IsTriggerNamed name x) ⊎ IsTextLeft x false) os) (take_all i news over) c.loop-object.invariant
