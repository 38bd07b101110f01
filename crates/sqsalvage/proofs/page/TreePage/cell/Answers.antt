use Rattle.std.proofs.Common.{MatchOption, List, ℕ, subst}
use Rattle.sqpage.specs.declared.cell.Cell.{Cell}
use Rattle.sqcheck.specs.Places.{IsCellAt}
use Rattle.sqsalvage.proofs.page.TreePage.cell.Goals as goal

pub returns-clause-cell : goal.returns-clause-cell
returns-clause-cell c =
    subst (λ (u : List ℕ). MatchOption c.cell_at.result ((cell : Cell) → ¬ IsCellAt (record { used = u; number = c.args.self.now.number; kind = c.args.self.now.kind }) c.args.i cell)
    (IsCellAt (record { used = u; number = c.args.self.now.number; kind = c.args.self.now.kind }) c.args.i)) c.used.ensures.value c.cell_at.ensures.cell
