use Rattle.std.proofs.Common.{◌≡◌, ◌∙◌, ◌≤◌, List, false, length, sym, subst, arith}
use Rattle.std.specs.Prelude.{All}
use Rattle.std.specs.Str.{str_eq_ignore_ascii_case}
use Rattle.std.proofs.lemmas.List.{take_all}
use Rattle.std.proofs.lemmas.List.Elements.{All-more}
use Rattle.sqtables.specs.declared.list.Object.{Object}
use Rattle.cli_show_salvage.proofs.tables.is_free.Goals as goal

pub loop-object-preserved : goal.loop-object-preserved
loop-object-preserved c =
    let name = c.args.name.now in
    let object = c.object-item.result in
    let differs : str_eq_ignore_ascii_case object.name.items name ≡ false = sym c.is_named.ensures ∙ c.if-is_named.false in
    let at = subst (λ (o : Object). str_eq_ignore_ascii_case o.name.items name ≡ false) c.object-item.is differs in
    All-more (λ (o : Object). str_eq_ignore_ascii_case o.name.items name ≡ false) c.args.objects.now c.loop-object.object-index object c.loop-object-test.true c.loop-object.invariant at

pub returns : goal.returns
returns c = λ yes.
    let name = c.args.name.now in
    let objects = c.args.objects.now in
    let over : length objects ≤ c.loop-object.object-index = omega (arith, c.loop-object-test.false) in
    subst (λ (os : List Object). All (λ o. str_eq_ignore_ascii_case o.name.items name ≡ false) os) (take_all c.loop-object.object-index objects over) c.loop-object.invariant
