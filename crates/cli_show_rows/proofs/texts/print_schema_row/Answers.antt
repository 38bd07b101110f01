use Rattle.std.proofs.Common.{List, ℕ, refl, subst}
use Rattle.std.specs.Io.KnownBytes.{Appends}
use Rattle.sqtext.specs.Texts.{IsStoredAs}
use Rattle.cli_schema_text.specs.Texts.{schema_row_text}
use Rattle.cli_show_rows.proofs.texts.print_schema_row.Goals as goal

pub returns-in-Ok-write_schema_row-clause-ok : goal.returns-in-Ok-write_schema_row-clause-ok
returns-in-Ok-write_schema_row-clause-ok g c =
    let old = g.W.Write.contents c.args.out.now in
    let new = g.W.Write.contents c.write_schema_row.new.out in
    let name = c.in-Ok.name.items in
    let sql = c.in-Ok-encoded.sql.items in
    let named = subst (λ (b : List ℕ). IsStoredAs c.args.encoding b name) c.as_slice.ensures.value c.in-Ok.ensures in
    let stored = subst (λ (b : List ℕ). IsStoredAs c.args.encoding b sql) c.as_slice-2.ensures.value c.in-Ok-encoded.ensures in
    let first = subst (λ (b : List ℕ). Appends old new (schema_row_text b c.as_slice-4.result.now)) c.as_slice-3.ensures.value c.in-Ok-write_schema_row.ensures in
    let both = subst (λ (b : List ℕ). Appends old new (schema_row_text name b)) c.as_slice-4.ensures.value first in
    (schema_row_text name sql, (name, sql, named, stored, refl), both)
