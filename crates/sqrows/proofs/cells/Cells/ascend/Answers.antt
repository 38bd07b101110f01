use Rattle.std.proofs.Common.{◌≡◌, ◌∷◌, ◌++◌, [], ◌∙◌, length, sym, ap, refl, arith}
use Rattle.std.proofs.lemmas.List.{nil_from_length}
use Rattle.sqrows.proofs.moves.MovesOfCursor.{goes_up, none_left}
use Rattle.sqrows.proofs.moves.WayBack.{came_up, all_given}
use Rattle.sqrows.proofs.cells.Cells.ascend.Goals as goal

pub returns-in-Some-clause-up : goal.returns-in-Some-clause-up
returns-in-Some-clause-up c = λ _ d xs.
    let items = c.in-Some.ensures.items ∙ ap (λ t. c.pop.new.self.items ++ t ∷ []) (sym c.replace-below.ensures.after) in
    (goes_up d c.args.self.now _ c.requires items refl refl refl xs, came_up d c.args.self.now _ c.requires items refl refl refl xs)

pub returns-in-None-clause-none : goal.returns-in-None-clause-none
returns-in-None-clause-none c = λ _ d over xs.
    let empty : length c.args.self.now.above.items ≡ 0 = omega (arith, c.in-None.ensures.cases, c.args.self.now.above.ok) in
    let none : c.args.self.now.above.items ≡ [] = nil_from_length c.args.self.now.above.items empty in
    (none_left d c.args.self.now c.requires none xs, all_given d c.args.self.now c.requires none over xs)
