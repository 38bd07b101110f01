use Rattle.std.proofs.Common.{◌≡◌, suc, ◌+◌, refl, arith}
use Rattle.sqrows.proofs.moves.MovesOfCursor.{moves}
use Rattle.sqrows.proofs.moves.StepsOfPage.{own_kind}
use Rattle.sqrows.proofs.moves.WayBack.{moved_from}
use Rattle.sqrows.proofs.cells.Cells.advance.Goals as goal

pub returns-in-Ok-Some-clause-ok : goal.returns-in-Ok-Some-clause-ok
returns-in-Ok-Some-clause-ok g c = λ right over xs.
    let found = rw c.in-Ok-Some.field-0-is at c.in-Ok-Some.ensures.found in
    let keeps = rw c.in-Ok-Some.field-0-is at (c.in-Ok-Some.ensures.ok right over) in
    let d = g.S.PageSource.pages c.args.source.now in
    let index : c.seek.new.self.top.index + 1 ≡ suc c.seek.new.self.top.index = omega arith in (
      λ left. moves d c.seek.new.self _ c.in-Ok-Some.i found.0 found.1 refl index refl refl refl refl refl xs ((keeps xs).0 left),
      λ move. (keeps xs).1 (moved_from d c.seek.new.self _ c.in-Ok-Some.i found.0 found.1 refl index refl refl refl refl refl xs move),
    )

pub returns-in-Ok-Some-clause-own : goal.returns-in-Ok-Some-clause-own
returns-in-Ok-Some-clause-own g c = λ _.
    let found = rw c.in-Ok-Some.field-0-is at c.in-Ok-Some.ensures.found in own_kind c.seek.new.self.top.kind c.seek.new.self.top.index c.in-Ok-Some.i found.1

pub returns-in-Ok-None-clause-ok : goal.returns-in-Ok-None-clause-ok
returns-in-Ok-None-clause-ok g c = λ right over xs.
    let none = rw c.in-Ok-None.field-0-is at (c.in-Ok-None.ensures.ok right over) in none xs
