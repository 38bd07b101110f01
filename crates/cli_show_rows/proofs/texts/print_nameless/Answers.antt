use Rattle.std.proofs.Common.{◌++◌, refl}
use Rattle.cli_schema_text.specs.Comments.{unnamed_text}
use Rattle.cli_schema_text.specs.Texts.{printed_text}
use Rattle.cli_show_rows.proofs.texts.print_nameless.Goals as goal

pub returns-in-Ok-write_nameless-clause-ok : goal.returns-in-Ok-write_nameless-clause-ok
returns-in-Ok-write_nameless-clause-ok g c =
    let printed = c.in-Ok.printed in
    let own = printed_text c.args.table.now.sql.items printed in
    (own ++ unnamed_text c.args.table.now.name.items, (own, (printed, c.in-Ok.ensures, refl), refl), c.in-Ok-write_nameless.ensures)
