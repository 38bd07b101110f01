use Rattle.std.proofs.Common.{Option, subst}
use Rattle.std.specs.Prelude.{MatchOption}
use Rattle.sqtables.specs.declared.list.Object.{Object}
use Rattle.sqtables.specs.Objects.{IsNoObject, IsObjectOf}
use Rattle.cli_show_salvage.proofs.object.object_in.Goals as goal

pub returns-in_ok-read_object-in-Ok-Some : goal.returns-in_ok-read_object-in-Ok-Some
returns-in_ok-read_object-in-Ok-Some c =
    let values = c.args.values.now in
    let found = subst (λ (o : Option Object). MatchOption o (IsNoObject values) (IsObjectOf values)) c.in-Ok-Some.field-0-is c.in-Ok-Some.ensures in
    (c.in-Ok-Some.stored, found, c.in_ok-read_object-in-Ok-Some.ensures)
