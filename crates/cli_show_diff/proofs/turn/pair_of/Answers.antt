use Rattle.std.proofs.Common.{List, ℕ, refl, subst, sym}
use Rattle.std.specs.Prelude.{Some, None, All}
use Rattle.sqtables.specs.Objects.{IsTableNamed}
use Rattle.cli_show_diff.specs.declared.pair.Pair.{Pair}
use Rattle.cli_show_diff.specs.declared.turn.Side.{Side}
use Rattle.cli_show_diff.specs.Turns.{IsFound, IsInTurnOf, IsPairOfSide}
use Rattle.cli_show_diff.proofs.turn.pair_of.Goals as goal

pub returns-in-Old : goal.returns-in-Old
returns-in-Old c =
    let turn = c.args.turn in
    let o = c.args.object.now in
    let pair : Pair = record { old = Some c.args.object; new = c.table_named.result } in
    let found = subst (λ (name : List ℕ). IsFound name turn.others.now c.table_named.result) c.as_slice.ensures.value c.table_named.ensures in
    subst (λ (side : Side). IsInTurnOf side turn.internal turn.others.now o × IsPairOfSide side turn.others.now o pair) (sym c.in-Old.is)
    (c.if-not-is_among.ensures.yes refl, (c.args.object, refl, refl, found))

pub returns-in-None : goal.returns-in-None
returns-in-None c =
    let turn = c.args.turn in
    let o = c.args.object.now in
    let pair : Pair = record { old = None; new = Some c.args.object } in
    let none = subst (λ (name : List ℕ). All (λ p. ¬ IsTableNamed name p) turn.others.now) c.as_slice-in-New.ensures.value c.in-None.ensures in
    subst (λ (side : Side). IsInTurnOf side turn.internal turn.others.now o × IsPairOfSide side turn.others.now o pair) (sym c.in-New.is)
    ((c.if-not-is_among.ensures.yes refl, none), (c.args.object, refl, refl, refl))
