use Rattle.std.proofs.Common.{◌∙◌, sym, arith}
use Rattle.sqplan.proofs.LeftSteps.{passed, found}
use Rattle.sqplan.proofs.plan.Plan.placed_from.Goals as goal

pub returns-then-place-ne0-clause-pages : goal.returns-then-place-ne0-clause-pages
returns-then-place-ne0-clause-pages c =
    c.loop-page.invariant.1 ∙ found c.args.self.now c.loop-page.page (omega (arith, c.loop-page-test.true, c.from.ensures)) (λ none. c.if-place-ne0.true (c.place.ensures ∙ none))

pub loop-page-preserved : goal.loop-page-preserved
loop-page-preserved c = (
  omega (arith, c.loop-page.invariant.0),
  c.loop-page.invariant.1 ∙ passed c.args.self.now c.loop-page.page (omega (arith, c.loop-page-test.true, c.from.ensures)) (sym c.place.ensures ∙ c.if-place-ne0.false),
)
