use Rattle.std.proofs.Common.{ℕ, List, Option, MatchOption, subst, sym}
use Rattle.sqpage.specs.declared.kind.Kind.{Kind}
use Rattle.sqpage.specs.declared.cell.Cell.{Cell}
use Rattle.sqcheck.specs.Places.{IsCellAt}
use Rattle.sqrows.proofs.steps.cell_at.Goals as goal

-- the result is cell i of a page of this kind, where it has one
abbrev Answers : (used : List ℕ) (number i : ℕ) → Option Cell → Kind → Type 0
Answers used number i result kind =
    MatchOption result ((cell : Cell) → ¬ IsCellAt (record { used = used; number = number; kind = kind }) i cell)
    (IsCellAt (record { used = used; number = number; kind = kind }) i)

pub returns-in-TableLeaf-clause-cell : goal.returns-in-TableLeaf-clause-cell
returns-in-TableLeaf-clause-cell c =
    subst (Answers c.args.used.now c.args.number c.args.i c.cell_of.result) (sym c.in-TableLeaf.is) c.cell_of.ensures.cell

pub returns-in-IndexLeaf-clause-cell : goal.returns-in-IndexLeaf-clause-cell
returns-in-IndexLeaf-clause-cell c =
    subst (Answers c.args.used.now c.args.number c.args.i c.cell_of-in-IndexLeaf.result) (sym c.in-IndexLeaf.is) c.cell_of-in-IndexLeaf.ensures.cell

pub returns-in-TableInterior-clause-cell : goal.returns-in-TableInterior-clause-cell
returns-in-TableInterior-clause-cell c =
    subst (Answers c.args.used.now c.args.number c.args.i c.cell_of-in-TableInterior.result) (sym c.in-TableInterior.is) c.cell_of-in-TableInterior.ensures.cell

pub returns-in-IndexInterior-clause-cell : goal.returns-in-IndexInterior-clause-cell
returns-in-IndexInterior-clause-cell c =
    subst (Answers c.args.used.now c.args.number c.args.i c.cell_of-in-IndexInterior.result) (sym c.in-IndexInterior.is) c.cell_of-in-IndexInterior.ensures.cell
