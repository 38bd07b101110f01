use Rattle.std.proofs.Common.{◌≡◌, ◌∙◌, sym, ap, slice_get, Option, None, option_map, unwrap_or}
use Rattle.std.proofs.lemmas.Option.{unwrap_or-slice_get}
use Rattle.sqlite_record.specs.Record.{decode}
use Rattle.sqlite_value.specs.declared.value.Value.{Value}
use Rattle.sqlite_value.specs.Value.{owned}
use Rattle.sqkeys.specs.declared.key.KeyColumn.{KeyColumn}
use Rattle.sqindex.specs.Keys.{value_at}
use Rattle.sqindex.proofs.fields.value_in.Goals as goal

pub returns-in-None : goal.returns-in-None
returns-in-None c =
    let row = decode c.args.row.now in
    let none : slice_get row c.in-Stored.at ≡ None = sym c.field.ensures ∙ ap (option_map owned) c.in-None.is in
    c.lent.ensures ∙ ap (λ (o : Option Value). unwrap_or o c.in-Stored.default) (sym none) ∙ unwrap_or-slice_get row c.in-Stored.at c.in-Stored.default
    ∙ ap (λ (column : KeyColumn). value_at column c.args.rowid row) (sym c.in-Stored.is)
