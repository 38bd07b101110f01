use Rattle.std.proofs.Common.{List, ℕ, subst}
use Rattle.sqtables.specs.Named.{AreColumns}
use Rattle.cli_show_rows.proofs.columns.known_columns.Goals as goal

pub returns-in-Ok-stored_columns-clause-ok : goal.returns-in-Ok-stored_columns-clause-ok
returns-in-Ok-stored_columns-clause-ok c =
    (c.in-Ok.columns, subst (λ (text : List ℕ). AreColumns text c.in-Ok.columns) c.deref.ensures.value c.in-Ok.ensures.ok, c.in-Ok-stored_columns.ensures)
