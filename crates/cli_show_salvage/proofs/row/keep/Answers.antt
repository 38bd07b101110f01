use Rattle.std.proofs.Common.{Option, inl, refl, sym, subst}
use Rattle.std.specs.Prelude.{MatchOption}
use Rattle.sqtables.specs.declared.list.Object.{Object}
use Rattle.sqtables.specs.Objects.{IsNoObject}
use Rattle.cli_show_salvage.specs.Cells.{IsObjectIn}
use Rattle.cli_show_salvage.proofs.row.keep.Goals as goal

pub returns-in-Ok-clause-ok : goal.returns-in-Ok-clause-ok
returns-in-Ok-clause-ok g c =
    let values = c.args.row.now.values in
    let found = subst (λ (o : Option Object). MatchOption o (IsNoObject values) (IsObjectIn c.args.encoding values)) c.in-Ok-Some.field-0-is c.in-Ok-Some.ensures in
    let same = c.in-Ok.ensures.same in
    inl (c.in-Ok-Some.object, found, c.in-Ok.ensures.objects, sym same.0, sym same.1, refl)
