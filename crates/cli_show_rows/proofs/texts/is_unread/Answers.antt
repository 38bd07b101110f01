use Rattle.std.proofs.Common.{List, ℕ, ◌∙◌, ap, nat_eq, subst}
use Rattle.sqtables.specs.Named.{AreColumns}
use Rattle.cli_show_rows.proofs.texts.is_unread.Goals as goal

pub returns-in-Ok : goal.returns-in-Ok
returns-in-Ok c =
    let columns = c.in-Ok.columns in (
      columns,
      subst (λ (text : List ℕ). AreColumns text columns) c.deref.ensures.value c.in-Ok.ensures.ok,
      c.is_empty.ensures ∙ ap (λ n. nat_eq n 0) columns.names.ok.0,
    )
