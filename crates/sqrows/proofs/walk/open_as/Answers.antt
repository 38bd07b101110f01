use Rattle.std.proofs.Common.{◌≢◌}
use Rattle.sqval.specs.Database.{page}
use Rattle.sqpage.specs.declared.fault.Fault.TheVariants as faults
use Rattle.sqpage.proofs.btree.LayoutOfPage.{exits}
use Rattle.sqrows.specs.internal.Opening.{IsNoPageAs}
use Rattle.sqrows.proofs.moves.MovesOfCursor.{other_kind}
use Rattle.sqrows.proofs.walk.open_as.Goals as goal

pub returns-in_err-level-clause-err : goal.returns-in_err-level-clause-err
returns-in_err-level-clause-err g c = λ gives.
    let bytes = page (g.S.PageSource.pages c.args.source.now) c.args.number in
    let e = c.in_err-level.ensures.err gives in
    exits (λ e. (e.fault ≢ faults.Source) × (e.fault ≢ faults.NoMemory) × IsNoPageAs c.args.table bytes c.args.usable c.args.number)
    c.in_err-level.field-0.0 c.from_residual.result c.from_residual.ensures.1 (e.0, e.1, λ kind typed same. e.2 kind typed)

pub returns-clause-err : goal.returns-clause-err
returns-clause-err g c = λ gives. (
  λ e. cc,
  λ e. cc,
  other_kind c.args.table (page (g.S.PageSource.pages c.args.source.now) c.args.number) c.args.usable c.args.number c.in_ok-level.level (c.in_ok-level.ensures.ok gives)
      (c.is_of.ensures.not c.if-is_of.false),
)
